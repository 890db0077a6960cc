-- Demand 3, shown for every list of calls: a fresh world has the invariant, every call keeps it and is answered right, so the claim follows by going along the list.
use Prim.Native.Nat.{ℕ, ◌≤◌}
use mathlib.Core.Path.{sym, subst}
use mathlib.Core.List.{List, [], ◌∷◌}
use Rattle.calls.specs.declared.Call.{Call}
use Rattle.calls.specs.declared.Call.TheVariants.{StartLookup, StartWalk, StepReader, StartPut, StartChange, StartRemoval, StartCommand, StepWriter, Turn}
use Rattle.calls.specs.Calls.{applied}
use Rattle.history.specs.Log.{Request, role_of}
use Rattle.history.specs.World.{World, outcome_of, next, fresh_world}
use Rattle.history.specs.Claim.{Right, StepInTurn, WorldRight, Holds, ArgumentsFit, AllFit, Demand3}
use Rattle.history.proofs.Invariant.{Inv, fresh_inv}
use Rattle.history.proofs.Kept.{Kept}
use Rattle.history.proofs.ReaderCalls.{lookup_kept, walk_kept, step_kept as reader_step_kept}
use Rattle.history.proofs.WriterStarts.{put_kept, change_kept, removal_kept, command_kept}
use Rattle.history.proofs.WriterSteps.{step_kept as writer_step_kept}
use Rattle.history.proofs.TurnCalls.{turn_kept}
use Rattle.history.proofs.Turns.{TurnsOK, turns_kept, fresh_turns}
use Rattle.history.proofs.InTurn.{made, world_right, step_in_turn}

-- each call, by its definition
call_kept : (world : World) → Inv world.panel.m world.panel.k world → (call : Call) (frame : List ℕ) → ArgumentsFit call → Kept world call frame (applied world.panel world.slots call frame)
unfolding applied
call_kept world inv (StartLookup reader point) frame fit = lookup_kept world inv reader point frame
call_kept world inv (StartWalk reader) frame fit = walk_kept world inv reader frame
call_kept world inv (StepReader reader) frame fit = reader_step_kept world inv reader frame
call_kept world inv (StartPut point value) frame fit = put_kept world inv point value frame fit.1
call_kept world inv (StartChange point keep flip) frame fit = change_kept world inv point keep flip frame fit.2
call_kept world inv (StartRemoval point) frame fit = removal_kept world inv point frame
call_kept world inv StartCommand frame fit = command_kept world inv frame
call_kept world inv StepWriter frame fit = writer_step_kept world inv frame
call_kept world inv Turn frame fit = turn_kept world inv frame

-- what holds of a world all along: the invariant, and what is kept of the turns
pub record Along (m k : ℕ) (world : World) : Type 0 where
  pub inv : Inv m k world
  pub turns : TurnsOK world

-- what is so for the m and k of a world's record is so for those of the claim
own_sizes : (m k : ℕ) (world : World) (P : ℕ → ℕ → Type 0) → Inv m k world → (Inv world.panel.m world.panel.k world → P world.panel.m world.panel.k) → P m k
own_sizes m k world P inv holds =
    subst (λ (x : ℕ). P x k) inv.m_is (subst (λ (x : ℕ). P world.panel.m x) inv.k_is (holds own))
  where
    own : Inv world.panel.m world.panel.k world
    own = subst (λ (x : ℕ). Inv x world.panel.k world) (sym inv.m_is) (subst (λ (x : ℕ). Inv m x world) (sym inv.k_is) inv)

-- what a call leaves
record Next (m k : ℕ) (world : World) (request : Request) : Type 0 where
  along : Along m k (next world request)
  right : Right m k world (next world request) request.call request.frame (outcome_of world request).answer
  steps_in_turn : StepInTurn m k world (next world request) (role_of request.call request.frame (outcome_of world request).answer) (outcome_of world request).answer

next_kept : (m k : ℕ) (world : World) (request : Request) → Along m k world → ArgumentsFit request.call → Next m k world request
unfolding next outcome_of
next_kept m k world request along fit =
    own_sizes m k world (λ (x y : ℕ). Next x y world request) along.inv
    (λ own.
    let kept = call_kept world own request.call request.frame fit in
    let calls = made world.panel.m world.panel.k world _ along.turns.place_low request.call request.frame _ kept.right in
    record {
      along = record { inv = kept.inv; turns = turns_kept world along.turns _ _ calls };
      right = kept.right;
      steps_in_turn = step_in_turn world own along.turns _ _ calls;
    })

holds : (m k : ℕ) (world : World) (requests : List Request) → Along m k world → AllFit requests → Holds m k world requests
holds m k world [] along fit = own_sizes m k world (λ (x y : ℕ). WorldRight x y world) along.inv (λ own. world_right world own along.turns)
holds m k world (request ∷ rest) along fit =
    let after = next_kept m k world request along fit.0.0 in (
      own_sizes m k world (λ (x y : ℕ). WorldRight x y world) along.inv (λ own. world_right world own along.turns),
      after.right,
      after.steps_in_turn,
      holds m k (next world request) rest after.along fit.1,
    )

-- a fresh world
pub fresh_along : (m k : ℕ) → 1 ≤ m → m ≤ 4096 → 1 ≤ k → k ≤ 64 → Along m k (fresh_world m k)
fresh_along m k m_low m_high k_low k_high = record { inv = fresh_inv m k m_low m_high k_low k_high; turns = fresh_turns m k }

-- "Demand 3 is a single claim, for every m and k in range, about every whole list of these calls with any arguments"
pub demand_3 : Demand3
demand_3 m k m_low m_high k_low k_high requests fit = holds m k (fresh_world m k) requests (fresh_along m k m_low m_high k_low k_high) fit

-- a call keeps what holds all along: for whoever goes along a list of calls
pub call_keeps : (m k : ℕ) (world : World) (request : Request) → Along m k world → ArgumentsFit request.call → Along m k (next world request)
call_keeps m k world request along fit = (next_kept m k world request along fit).along
