-- `record_ranges::are_counts_in_range` meets its contract: the first of the 64 counts, as many as are used, are the first k.
use Rattle.std.proofs.Common.{◌≡◌, ℕ, length, leb, min, take, ap, sym, ◌∙◌, rules}
use Rattle.std.specs.List.{list_all}
use Rattle.std.proofs.lemmas.List.{take_min}
use Rattle.record_ranges.specs.Ranges.{counts_in_range}
use Rattle.record_ranges.proofs.are_counts_in_range.Goals as goal

pub returns : goal.returns
unfolding counts_in_range
returns c =
    let a = c.args in
    let whole : length a.counts.now ≡ 64 = search rules in
    let first : take (min a.k 64) a.counts.now ≡ take a.k a.counts.now =
    ap (λ (n : ℕ). take (min a.k n) a.counts.now) (sym whole) ∙ take_min a.k a.counts.now in
    let e : c.are_at_most.result ≡ list_all (λ (count : ℕ). leb count a.m) (take (min a.k 64) a.counts.now) = search rules in
    e ∙ ap (list_all (λ (count : ℕ). leb count a.m)) first
