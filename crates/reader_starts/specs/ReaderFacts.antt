-- The words in which the laws of readers are stated (proofs/ReaderLaws.antt): what a call of one reader leaves alone, and how many steps its work takes.
use Rattle.std.specs.Prelude.{ℕ, ◌≤◌, ◌≡◌, List, [], ◌∷◌, ◌≢◌}
use Rattle.record.specs.declared.Record.{Record}
use Rattle.record.specs.declared.ReaderWork.{ReaderWork}
use Rattle.record.specs.Parts.{work_of}
use Rattle.answers.specs.Answers.{Outcome}
use Rattle.counting.specs.Steps.{reader_counted}
use Rattle.reader_step.specs.Reader.{reader_advance}

-- nothing but one reader's work has changed: not the slots, nor any other part of the record
pub record OnlyWorkOf (reader : ℕ) (panel : Record) (slots : List ℕ) (after : Outcome) : Type 0 where
  pub slots_stay : after.slots ≡ slots
  pub m_stays : after.panel.m ≡ panel.m
  pub k_stays : after.panel.k ≡ panel.k
  pub reach_stays : after.panel.reach ≡ panel.reach
  pub counts_stay : after.panel.counts ≡ panel.counts
  pub writer_stays : after.panel.writer ≡ panel.writer
  pub stations_stay : after.panel.stations ≡ panel.stations
  pub place_stays : after.panel.place ≡ panel.place
  pub others_stay : (other : ℕ) → other ≢ reader → work_of after.panel other ≡ work_of panel other

-- what a reader's step may meet, whatever the others did before it: the record's reach, and the word in the slot that it reads
pub record Met : Type 0 where
  pub reach : ℕ
  pub word : ℕ

-- a reader's work after as many of its own steps
unfoldable pub work_after : ℕ → ℕ → ReaderWork → List Met → ReaderWork
work_after m k work [] = work
work_after m k work (met ∷ rest) = work_after m k (reader_advance m met.reach (reader_counted k work) met.word).work rest

-- the reach is 0 to k at each of the steps
pub data ReachWithin (k : ℕ) : List Met → Type 0 where
  at_end : ReachWithin k []
  at_step : {met : Met} {rest : List Met} → met.reach ≤ k → ReachWithin k rest → ReachWithin k (met ∷ rest)
