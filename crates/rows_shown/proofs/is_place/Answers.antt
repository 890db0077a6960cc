-- `rows_shown::is_place` meets its contract.
use Rattle.std.proofs.Common.{◌∙◌, rules, tests}
use Rattle.std.specs.Prelude.{◌==◌}
use Rattle.std.proofs.lemmas.Iterator.{YieldsList-from_slice}
use Rattle.std.proofs.lemmas.Iterator.Search.{any_from_yields_List}
use Rattle.plain_rows.proofs.RowsLaws.{place_found}
use Rattle.rows_shown.proofs.is_place.Goals as goal

pub returns : goal.returns
returns c =
    any_from_yields_List (λ r. r.place == c.args.place) _ _ c.any.result c.any.ensures.ran (YieldsList-from_slice c.args.rows.now (cc)) (λ x b q k. search (rules, tests))
    ∙ place_found c.args.place c.args.rows.now
