-- The words in which the contracts of the loops are stated, and the law of the steps that a lookup takes. No public contract cites them.
use Rattle.std.specs.Prelude.{ℕ, zero, suc, ◌+◌, ◌≤◌, ◌<◌, Bool, true, false, List, ◌≢◌, ◌≡◌, get_or, Option, Some, None}
use Rattle.hash.specs.Position.{position_of}
use Rattle.slot_words.specs.Word.{point_of, value_of}
use Rattle.record.specs.declared.Place.{Place}
use Rattle.record.specs.declared.Record.{Record}
use Rattle.record.specs.declared.RemovalStage.TheVariants.{Found}
use Rattle.record.specs.declared.Search.{Search}
use Rattle.record.specs.declared.WriterWork.{WriterWork}
use Rattle.record.specs.declared.WriterWork.TheVariants.{Idle, Putting, Changing, Removing}
use Rattle.record.specs.Parts.{count_of}
use Rattle.counting.specs.Counting.{one_more}
use Rattle.search.specs.declared.Searched.{Searched}
use Rattle.search.specs.declared.Searched.TheVariants.{Going, Answered as Searched-as-Answered}
use Rattle.search.specs.Access.{word_read}
use Rattle.search.specs.Search.{search_access, search_advance}
use Rattle.answers.specs.Answers.{Answer, looked_up, ended_with, completed, ended}
use Rattle.effects.specs.declared.update.Update.{Update}
use Rattle.effects.specs.declared.update.Update.TheVariants.{Nothing, Reach, Counted, Uncounted, Answered}
use Rattle.whole_operations.specs.declared.changes.IndexCount.{IndexCount}
use Rattle.whole_operations.specs.declared.searching.SearchEnd.{SearchEnd}

-- what a search comes to from how it stands after its step of this number
unfoldable pub end_after : (Search → SearchEnd) → ℕ → Searched → SearchEnd
end_after goes_on steps (Going search) = goes_on search
end_after goes_on steps (Searched-as-Answered answer) = record { answer = answer; steps = steps }

-- what a search that has made as many steps comes to in at most n more, over slots that stay as they are
unfoldable pub search_end : List ℕ → ℕ → ℕ → ℕ → ℕ → ℕ → Search → SearchEnd
search_end slots m point reach zero steps search = record { answer = None; steps = steps }
search_end slots m point reach (suc n) steps search =
    end_after (search_end slots m point reach n (steps + 1)) (steps + 1) (search_advance reach point search (word_read slots (search_access m point search)))

-- the word in "position i of point q"
abbrev pub word_at : List ℕ → ℕ → ℕ → ℕ → ℕ
word_at slots m point index = get_or slots (position_of m point index) 0

-- request N2: "a lookup that finds its point on position i while nothing else moves says i + 1", and one that does not find it the reach + 1; i is the first of positions 1 to the reach that holds the point
pub data LookupTook (slots : List ℕ) (m point reach : ℕ) : Answer → Type 0 where
  found_at : (i : ℕ) → 1 ≤ i → i ≤ reach → point_of (word_at slots m point i) ≡ point → ((j : ℕ) → 1 ≤ j → j < i → point_of (word_at slots m point j) ≢ point) → LookupTook slots m point reach (ended (completed (looked_up (value_of (word_at slots m point i))) (i + 1)))
  not_found : ((j : ℕ) → 1 ≤ j → j ≤ reach → point_of (word_at slots m point j) ≢ point) → LookupTook slots m point reach (ended (completed (ended_with 7) (reach + 1)))

-- the writer puts
abbrev pub is_putting : WriterWork → Bool
is_putting Idle = false
is_putting (Putting put) = true
is_putting (Changing change) = false
is_putting (Removing removal) = false

-- the count, with one point more, of the index that an update counts
unfoldable pub count_added : Record → Update → Option IndexCount
count_added panel Nothing = None
count_added panel (Reach reach) = None
count_added panel (Counted index) = Some (record { index = index; count = one_more panel.m (count_of panel index) })
count_added panel (Uncounted index) = None
count_added panel (Answered command) = None

-- a removal that has found its point at this place, in as many steps
abbrev pub removing_from : ℕ → Place → ℕ → WriterWork
removing_from point place steps = Removing (record { point = point; stage = Found place; steps = steps })
