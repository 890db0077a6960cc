-- `disabled_points::disabled_total` meets its contract, by its test; the count fits, since the slots are at most 4096.
use mathlib.Core.Path.{◌≡◌, ◌∙◌, sym, ap}
use mathlib.Core.Bool.{true}
use mathlib.Core.List.{[], ◌∷◌}
use Prim.Native.Nat.{ℕ}
use native.Mathlib.Omega.{arith}
use borrow.Author.Rules.{rules}
use lib.ListN.{length}
use Rattle.std.specs.Prelude.{filter, count_by}
use Rattle.std.proofs.lemmas.List.{length-map}
use Rattle.std.proofs.lemmas.List.Sums.{count_by-le-length, length-filter}
use Rattle.slot_words.specs.Word.{point_of}
use Rattle.record_ranges.specs.Ranges.{in_range}
use Rattle.answers.specs.Answers.{gives}
use Rattle.record_ranges.proofs.Laws.{sizes_in_range_lem}
use Rattle.disabled_points.specs.Disabled.{holds_disabled, disabled_total}
use Rattle.disabled_points.proofs.disabled_total.Goals as goal

pub overflow_cast-result : goal.overflow_cast-result
overflow_cast-result c =
    let a = c.args in
    let s = a.slots.now in
    let n : c.count.result ≡ count_by holds_disabled s = search rules in
    let sizes = sizes_in_range_lem (length s) a.panel (sym c.is_in_range.ensures ∙ c.if-not-is_in_range.false) in
    omega (arith, n, count_by-le-length holds_disabled s, sizes.m_high, sizes.whole)

pub returns : goal.returns
unfolding disabled_total
returns c =
    let a = c.args in
    let s = a.slots.now in
    let n : c.count.result ≡ count_by holds_disabled s = search rules in
    let fits : in_range (length s) a.panel ≡ true = sym c.is_in_range.ensures ∙ c.if-not-is_in_range.false in
    rw fits (ap (λ (count : ℕ). gives (count ∷ [])) (n ∙ sym (length-filter holds_disabled s) ∙ sym (length-map (filter holds_disabled s) point_of)))
