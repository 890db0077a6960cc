-- `plain_rows::indices::largest_index` meets its contract.
use Rattle.std.proofs.Common.{◌∙◌, ap, sym, rules, tests}
use Rattle.std.specs.Option.{unwrap_or}
use Rattle.std.proofs.lemmas.Iterator.{YieldsList-from_map, YieldsList-from_slice}
use Rattle.std.proofs.lemmas.Iterator.Adapters.{option_map_id}
use Rattle.std.proofs.lemmas.Iterator.Consumers.{max_from_yields_List, YieldsList-at}
use Rattle.slot_words.specs.Word.{point_of}
use Rattle.plain_list.specs.PlainList.{index_of}
use Rattle.plain_rows.proofs.RowsLaws.{largest_found}
use Rattle.plain_rows.proofs.indices.largest_index.Goals as goal

pub returns : goal.returns
returns c =
    let a = c.args in
    let found = max_from_yields_List c.map.result c.max.result c.max.ensures.ran (YieldsList-from_map _ (λ r. index_of a.m a.k (point_of r.word) r.place) (YieldsList-at c.map.ensures.source (YieldsList-from_slice a.rows.now (cc))) c.map.ensures.closure (λ x r q k. search (rules, tests))) in
    c.unwrap_or.ensures ∙ ap (λ o. unwrap_or o 0) (sym (option_map_id c.max.result) ∙ found) ∙ largest_found a.m a.k a.rows.now
