-- `rows_shown::word_listed` meets its contract.
use Rattle.std.proofs.Common.{◌≡◌, ◌∙◌, ap, sym, rules, tests}
use Rattle.std.specs.Prelude.{◌==◌}
use Rattle.std.specs.Option.{option_map_or}
use Rattle.std.proofs.lemmas.Iterator.Adapters.{YieldsList-from_rev_slice, option_map_id}
use Rattle.std.proofs.lemmas.Iterator.Consumers.{YieldsList-at, YieldsList-from_copied}
use Rattle.std.proofs.lemmas.Iterator.Search.{find_from_yields_List}
use Rattle.plain_rows.specs.declared.Row.{Row}
use Rattle.rows_shown.proofs.VerdictLaws.{listed_found}
use Rattle.rows_shown.proofs.word_listed.Goals as goal

pub returns : goal.returns
returns c =
    let found = find_from_yields_List (λ r. r.place == c.args.place) _ _ c.find.result c.find.ensures.ran (YieldsList-from_copied (YieldsList-at c.copied.ensures.source (YieldsList-from_rev_slice c.args.rows.now (cc)))) (λ x b q k. search (rules, tests)) in
    let read : c.map_or.result ≡ option_map_or (λ (r : Row). r.word) c.find.result 0 = search rules in
    read
    ∙ ap (λ o. option_map_or (λ (r : Row). r.word) o 0) (sym (option_map_id c.find.result) ∙ found)
    ∙ listed_found c.args.place c.args.rows.now
