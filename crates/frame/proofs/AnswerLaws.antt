-- The paper's numbers tell the answers apart, so that the contracts decide the answers too.
use Prim.Native.Nat.{ℕ}
use mathlib.Core.Path.{◌≡◌, refl, sym, ap, ◌∙◌}
use mathlib.Core.List.{List}
use native.Mathlib.Omega.{arith}
use Rattle.std.specs.Prelude.{Result, Ok, Err}
use Rattle.refusal.specs.declared.Refusal.{Refusal}
use Rattle.refusal.proofs.Laws.{number_tells, number_positive}
use Rattle.frame.specs.declared.Frame.{Frame}
use Rattle.frame.specs.declared.Kind.{Kind}
use Rattle.frame.specs.declared.Kind.TheVariants.{Query, Command, Value, CommandAnswer, QueryRefused, CommandRefused}
use Rattle.frame.specs.declared.Reading.{Reading}
use Rattle.frame.specs.FieldMap.{map_of, kind_of}
use Rattle.frame.specs.Frames.{Writing}
use Rattle.frame.specs.Answers.{paper_read, paper_write}

kind_of_map : (k : Kind) → kind_of (map_of k) ≡ Ok k
unfolding kind_of
kind_of_map Query = refl
kind_of_map Command = refl
kind_of_map Value = refl
kind_of_map CommandAnswer = refl
kind_of_map QueryRefused = refl
kind_of_map CommandRefused = refl

pub map_tells : (k l : Kind) → map_of k ≡ map_of l → k ≡ l
map_tells k l e = let same : ◌≡◌ {A = Result Kind Refusal} (Ok k) (Ok l) = sym (kind_of_map k) ∙ ap kind_of e ∙ kind_of_map l in cc

pub read_tells : (a b : Result Frame Refusal) → paper_read a ≡ paper_read b → a ≡ b
read_tells (Ok frame) (Ok other) e =
    let kind = map_tells frame.kind other.kind (ap (λ (r : Reading). r.map) e) in
    let fields = ap (λ (r : Reading). r.fields) e in
    λ i. Ok (record { kind = kind i; fields = fields i })
read_tells (Ok frame) (Err r) e = absurd (omega (arith, number_positive r, ap (λ (r : Reading). r.refused) e))
read_tells (Err r) (Ok frame) e = absurd (omega (arith, number_positive r, ap (λ (r : Reading). r.refused) e))
read_tells (Err r) (Err s) e = ap Err (number_tells r s (ap (λ (r : Reading). r.refused) e))

pub write_tells : (a b : Result ℕ Refusal) (out left : List ℕ) → paper_write a out ≡ paper_write b left → a ≡ b
write_tells (Ok n) (Ok m) out left e = ap Ok (ap (λ (w : Writing). w.written) e)
write_tells (Ok n) (Err r) out left e = absurd (omega (arith, number_positive r, ap (λ (w : Writing). w.refused) e))
write_tells (Err r) (Ok n) out left e = absurd (omega (arith, number_positive r, ap (λ (w : Writing). w.refused) e))
write_tells (Err r) (Err s) out left e = ap Err (number_tells r s (ap (λ (w : Writing). w.refused) e))
