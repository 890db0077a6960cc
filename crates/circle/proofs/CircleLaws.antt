-- Laws of the circle: who is due depends on the seventeen parties' work alone; the party due has work; a turn that serves another party brings the place
-- nearer to one that has work, so that it is served by the seventeenth turn.
use Rattle.std.proofs.Common.{◌≡◌, ℕ, zero, suc, ◌+◌, ◌-◌, ◌<◌, ◌≤◌, Bool, true, false, cond, ltb, leb, ◌≢◌, ◌⊎◌, sym, refl, ap, ◌∙◌, inl, inr, arith, ltb-false, ltb-true, leb-false, leb-true}
use mathlib.Core.Bool.{false≢true}
use native.Mathlib.Decide.{ℕ_discrete}
use Rattle.circle.specs.Circle.{nobody, party_after, first_at_work, party_due}

-- the party after another is one of the seventeen
pub after_low : (party : ℕ) → party_after party ≤ 16
unfolding party_after
after_low party = go (ltb party 16) refl
  where
    go : (b : Bool) → ltb party 16 ≡ b → cond b (party + 1) 0 ≤ 16
    go true e = omega (arith, ltb-true party 16 e)
    go false e = omega arith

-- how far a party is from a place, along the circle
abbrev pub gap : ℕ → ℕ → ℕ
gap place party = cond (leb place party) (party - place) (party + 17 - place)

pub gap_low : (place party : ℕ) → place ≤ 16 → party ≤ 16 → gap place party ≤ 16
gap_low place party p q = go (leb place party) refl
  where
    go : (b : Bool) → leb place party ≡ b → cond b (party - place) (party + 17 - place) ≤ 16
    go true e = omega (arith, leb-true place party e)
    go false e = omega (arith, leb-false place party e)

-- a party that is not at the place is nearer to the party after it
pub gap_after : (place party : ℕ) → place ≤ 16 → party ≤ 16 → party ≢ place → gap (party_after place) party + 1 ≡ gap place party
unfolding party_after
gap_after place party p q other = go (ltb place 16) refl (leb place party) refl
  where
    by : (next : ℕ) (a b : Bool) → leb next party ≡ a → leb place party ≡ b → ((next ≡ place + 1) ⊎ ((place ≡ 16) × (next ≡ 0))) → cond a (party - next) (party + 17 - next) + 1 ≡ cond b (party - place) (party + 17 - place)
    by next true true e f (inl s) = omega (arith, leb-true next party e, leb-true place party f)
    by next true false e f (inl s) = absurd (omega (arith, leb-true next party e, leb-false place party f))
    by next false true e f (inl s) =
        let past = leb-false next party e in
        let upto = leb-true place party f in
        absurd (other (omega arith))
    by next false false e f (inl s) = omega (arith, leb-false next party e, leb-false place party f)
    by next true true e f (inr s) =
        let last = s.0 in
        let upto = leb-true place party f in
        absurd (other (omega arith))
    by next true false e f (inr s) =
        let last = s.0 in
        let first = s.1 in
        omega (arith, leb-true next party e, leb-false place party f)
    by next false b e f (inr s) =
        let first = s.1 in
        absurd (omega (arith, leb-false next party e))

    go : (c : Bool) → ltb place 16 ≡ c → (b : Bool) → leb place party ≡ b → gap (cond c (place + 1) 0) party + 1 ≡ cond b (party - place) (party + 17 - place)
    go true e b f = by (place + 1) (leb (place + 1) party) b refl f (inl refl)
    go false e b f =
        let last = ltb-false place 16 e in
        by 0 (leb 0 party) b refl f (inr (omega arith, refl))

-- who is due depends on the parties' work alone
pub same_party : (works others : ℕ → Bool) → ((party : ℕ) → party ≤ 16 → works party ≡ others party) → (tries place : ℕ) → place ≤ 16 → first_at_work works tries place ≡ first_at_work others tries place
unfolding first_at_work
same_party works others same zero place low = refl
same_party works others same (suc tries) place low =
    rw (same place low) (ap (cond (others place) place) (same_party works others same tries (party_after place) (after_low place)))

-- nobody is due, or a party that has work
pub record Due (works : ℕ → Bool) (party : ℕ) : Type 0 where
  pub low : party ≤ 16
  pub has_some_work : works party ≡ true

pub due_works : (works : ℕ → Bool) (tries place : ℕ) → place ≤ 16 → (first_at_work works tries place ≡ nobody) ⊎ Due works (first_at_work works tries place)
unfolding first_at_work
due_works works zero place low = inl refl
due_works works (suc tries) place low = go (works place) refl (first_at_work works tries (party_after place)) (due_works works tries (party_after place) (after_low place))
  where
    go : (b : Bool) → works place ≡ b → (rest : ℕ) → (rest ≡ nobody) ⊎ Due works rest → (cond b place rest ≡ nobody) ⊎ Due works (cond b place rest)
    go true e rest found = inr (record { low = low; has_some_work = e })
    go false e rest found = found

-- what holds of the party due where this party has work and is among those that are tried: it is this one, or the place behind it is nearer to this one
pub record Nearer (works : ℕ → Bool) (place party due : ℕ) : Type 0 where
  pub is_due : Due works due
  pub brings : (party ≡ due) ⊎ (gap (party_after due) party + 1 ≤ gap place party)

pub nearer : (works : ℕ → Bool) (tries place party : ℕ) → place ≤ 16 → party ≤ 16 → works party ≡ true → gap place party < tries → Nearer works place party (first_at_work works tries place)
unfolding first_at_work
nearer works zero place party p q w near = absurd (omega arith)
nearer works (suc tries) place party p q w near =
    go (works place) refl (ℕ_discrete party place) (λ less. nearer works tries (party_after place) party (after_low place) q w less)
  where
    passed : (due : ℕ) → gap (party_after place) party + 1 ≡ gap place party → (party ≡ due) ⊎ (gap (party_after due) party + 1 ≤ gap (party_after place) party) → (party ≡ due) ⊎ (gap (party_after due) party + 1 ≤ gap place party)
    passed due one (inl same) = inl same
    passed due one (inr less) = inr (omega arith)

    go : (b : Bool) → works place ≡ b → Dec (party ≡ place) → (gap (party_after place) party < tries → Nearer works (party_after place) party (first_at_work works tries (party_after place))) → Nearer works place party (cond b place (first_at_work works tries (party_after place)))
    go true e (yes same) rest = record { is_due = record { low = p; has_some_work = e }; brings = inl same }
    go true e (no other) rest =
        let one = gap_after place party p q other in record { is_due = record { low = p; has_some_work = e }; brings = inr (omega arith) }
    go false e (yes same) rest = absurd (false≢true (sym e ∙ (ap works (sym same) ∙ w)))
    go false e (no other) rest =
        let one = gap_after place party p q other in
        let found = rest (omega arith) in
        record { is_due = found.is_due; brings = passed _ one found.brings }

-- of seventeen tries none is too few
pub someone_due : (works : ℕ → Bool) (place party : ℕ) → place ≤ 16 → party ≤ 16 → works party ≡ true → Nearer works place party (party_due works place)
unfolding party_due
someone_due works place party p q w = let near = gap_low place party p q in nearer works 17 place party p q w (omega arith)
