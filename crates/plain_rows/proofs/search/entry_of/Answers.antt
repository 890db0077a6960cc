-- `plain_rows::search::entry_of` meets its contract.
use Rattle.std.proofs.Common.{◌∙◌, ap, sym, rules, tests}
use Rattle.std.specs.Prelude.{◌==◌}
use Rattle.std.proofs.lemmas.Iterator.Adapters.{YieldsList-from_rev_slice, option_map_id}
use Rattle.std.proofs.lemmas.Iterator.Consumers.{YieldsList-at, YieldsList-from_copied}
use Rattle.std.proofs.lemmas.Iterator.Search.{find_from_yields_List}
use Rattle.slot_words.specs.Word.{point_of}
use Rattle.plain_rows.specs.Rows.{entry_read}
use Rattle.plain_rows.proofs.RowsLaws.{entry_found}
use Rattle.plain_rows.proofs.search.entry_of.Goals as goal

pub returns : goal.returns
returns c =
    let found = find_from_yields_List (λ r. point_of r.word == c.args.point) _ _ c.find.result c.find.ensures.ran (YieldsList-from_copied (YieldsList-at c.copied.ensures.source (YieldsList-from_rev_slice c.args.rows.now (cc)))) (λ x b q k. search (rules, tests)) in
    ap entry_read (sym (option_map_id c.find.result) ∙ found) ∙ entry_found c.args.point c.args.rows.now
