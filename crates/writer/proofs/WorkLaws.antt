-- What a step hands back, part by part, and that its places are places of the counts and of the stations.
use Prim.Native.Nat.{ℕ, ◌<◌}
use mathlib.Core.Path.{◌≡◌, ap, ◌∙◌}
use mathlib.Core.List.{List}
use native.Mathlib.Omega.{arith}
use lib.ListN.{get_or}
use Rattle.record.specs.declared.Station.{Station}
use Rattle.record.specs.declared.WriterWork.{WriterWork}
use Rattle.record.proofs.Numbered.{place_below}
use Rattle.effects.specs.Effects.{reach_after, count_place, count_after, station_after}
use Rattle.effects.proofs.EffectLaws.{count_place_below}
use Rattle.writer.specs.Work.{WorkOutcome, station_underway, station_at, stores}

-- what a step hands back that comes to this, part by part
pub handed_back : {after due : WorkOutcome} (m reach : ℕ) (counts : List ℕ) (station : Station) {next-reach at count : ℕ} {last : Station} → after ≡ due → next-reach ≡ reach_after reach after.update → at ≡ count_place after.update → count ≡ count_after m after.update (get_or counts at 0) → last ≡ station_after after.update station → record { work = after.work; reach = next-reach; at = at; count = count; station = last; slots = after.slots; answer = after.answer } ≡ stores m reach counts station due
unfolding stores
handed_back {after} m reach counts station same same-reach same_place same_count same_station =
    let count-there = same_count ∙ ap (λ (at : ℕ). count_after m after.update (get_or counts at 0)) same_place in
    (λ j. record { work = after.work; reach = same-reach j; at = same_place j; count = count-there j; station = same_station j; slots = after.slots; answer = after.answer })
    ∙ ap (stores m reach counts station) same

pub count_stored_below : (m reach : ℕ) (counts : List ℕ) (station : Station) (after : WorkOutcome) → (stores m reach counts station after).at < 64
unfolding stores
count_stored_below m reach counts station after = count_place_below after.update

pub station_at_below : (work : WriterWork) → station_at work < 32
unfolding station_at
station_at_below work = place_below 32 (station_underway work) (omega arith)
