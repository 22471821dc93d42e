-- R7.4, WHAT THE C FACE OF A MACHINE IS, as the demands see it: blocks of bytes, calls on one block, and the words that they answer. What is watched of a
-- run on records (crates/passes/specs/Pass.antt) is watched here of the player's calls, and so each demand is said of both alike.
-- Assumes nothing.
use Rattle.std.specs.Prelude.{◌≡◌, ◌≢◌, Bool, true, false, cond, ◌||◌, List, [], ◌∷◌, ◌++◌, ℕ, zero, suc, ◌/◌, ◌%◌, eqb, None, Some, Ok}
use Rattle.raster.specs.declared.LineTable.{LineTable}
use Rattle.points.specs.declared.VdpInt.TheVariants.{InterruptGenerated, NoInterrupt}
use Rattle.points.specs.declared.DisplayRefresh.TheVariants.{NoDisplay, ScreenDone, ScreenDoneNoRefresh}
use Rattle.word.specs.Word.{refusal_in}
use Rattle.word.specs.Called.{Called}
use Rattle.passes.specs.Machine.{Told, Machine}
use Rattle.passes.specs.Pass.{Run, Watched, watched, latched_along}

-- what a call is for: it makes a device, steps, repairs the block, or does none of these
pub data Kind : Type 0 where
  making : Kind
  stepping : Kind
  repairing : Kind
  other : Kind

abbrev pub is_making : Kind → Bool
is_making making = true
is_making stepping = false
is_making repairing = false
is_making other = false

abbrev pub is_stepping : Kind → Bool
is_stepping making = false
is_stepping stepping = true
is_stepping repairing = false
is_stepping other = false

abbrev pub is_repairing : Kind → Bool
is_repairing making = false
is_repairing stepping = false
is_repairing repairing = true
is_repairing other = false

-- the two ways to step on a frame: without layers, and with a layer buffer that holds these bytes
pub data Way : Type 0 where
  plain : Way
  with_layers : (layers : List ℕ) → Way

pub record Face (M : Machine) : Type 1 where
  -- a call on one block, with its other arguments; its word, the block that it leaves, and the one other buffer that it may write
  pub Call : Type 0
  pub called : Call → (block : List ℕ) → Called
  -- the block is one that a call has made, of whatever bytes it was lent, with this table
  pub Made : LineTable → List ℕ → Type 0
  -- the device in a block
  pub device : List ℕ → M.Device
  -- what a call is for
  pub kind : Call → Kind
  -- a step on a frame, either way, as a call
  pub on_frame_lem : M.Area → Way → (vram frame : List ℕ) → Call

-- R7.7: the parts of a step's word: the interrupt in bit 8, the report in bits 9 and 10, the row in bits 16 to 23, where bit 24 says that there is one
abbrev pub interrupt_part : ℕ → ℕ
interrupt_part w = w / 256 % 2

abbrev pub report_part : ℕ → ℕ
report_part w = w / 512 % 4

abbrev pub row_part : ℕ → ℕ
row_part w = w / 65536 % 256

abbrev pub drawn_part : ℕ → ℕ
drawn_part w = w / 16777216 % 2

-- what the word of an accepted step tells, with the device that it leaves
abbrev pub told_by : {D : Type 0} → (word : ℕ) → D → Told D
told_by w d =
    record {
      outcome = (Ok tt);
      interrupt = cond (eqb (interrupt_part w) 1) InterruptGenerated NoInterrupt;
      report = cond (eqb (report_part w) 0) NoDisplay (cond (eqb (report_part w) 1) ScreenDone ScreenDoneNoRefresh);
      row = cond (eqb (drawn_part w) 1) (Some (row_part w)) None;
      device = d;
    }

-- ---- calls on a block
module _ {M : Machine} (F : Face M) where
  -- those that make a device anew, and those that step
  abbrev pub makes : F.Call → Bool
  makes c = is_making (F.kind c)

  abbrev pub steps : F.Call → Bool
  steps c = is_stepping (F.kind c)

  -- the block after calls, the last one first
  unfoldable pub block_after : (block : List ℕ) → List F.Call → List ℕ
  block_after b [] = b
  block_after b (c ∷ h) = (F.called c (block_after b h)).block

  abbrev pub Refused : F.Call → (block : List ℕ) → Type 0
  Refused c b = refusal_in (F.called c b).word ≢ 0

  -- of the calls cs, which are made on block b after the calls h, each that has the test is refused
  unfoldable pub RefusedOf : (F.Call → Bool) → (b : List ℕ) (h cs : List F.Call) → Type 0
  RefusedOf test b h [] = Unit {0}
  RefusedOf test b h (c ∷ cs) = (test c ≡ true → Refused c (block_after b (cs ++ h))) × RefusedOf test b h cs

-- ---- R13.3 through the face: steps on one frame, one after another, with calls between them that do not write it
pub record FaceRun {M : Machine} (F : Face M) (a : M.Area) : Type 0 where
  -- the table that the block was made with, the block as that call left it (the last one that made a device in it), and every call on it since, the last
  -- one first
  pub table : LineTable
  pub block : List ℕ
  pub before : List F.Call
  -- the calls made just before step i, the last one first; the way of step i, and the video memory lent to it
  pub between : ℕ → List F.Call
  pub way : ℕ → Way
  pub vram : ℕ → List ℕ
  -- the frame as step 0 finds it
  pub frame : List ℕ

-- every call until just before a step, and the frame as the step finds it
pub record Point {M : Machine} (F : Face M) : Type 0 where
  pub calls : List F.Call
  pub frame : List ℕ

module _ {M : Machine} {F : Face M} {a : M.Area} where
  -- the step at a point, and what it answers and leaves
  abbrev pub step_at : FaceRun F a → ℕ → Point F → F.Call
  step_at f i p = F.on_frame_lem a (f.way i) (f.vram i) p.frame

  abbrev pub stepped_at : FaceRun F a → ℕ → Point F → Called
  stepped_at f i p = F.called (step_at f i p) (block_after F f.block p.calls)

  unfoldable pub point : FaceRun F a → ℕ → Point F
  point f zero = record { calls = f.between 0 ++ f.before; frame = f.frame }
  point f (suc i) = record { calls = f.between (suc i) ++ (step_at f i (point f i) ∷ (point f i).calls); frame = (stepped_at f i (point f i)).lent }

  -- every call before those between
  abbrev pub earlier : FaceRun F a → ℕ → List F.Call
  earlier f zero = f.before
  earlier f (suc i) = step_at f i (point f i) ∷ (point f i).calls

  pub record Goes (f : FaceRun F a) : Type 0 where
    -- a call has made the block, and no later one has made a device anew in it
    pub made : F.Made f.table f.block
    pub one_device : RefusedOf F (makes F) f.block [] f.before
    -- of the calls between two steps none is an accepted step, nor makes a device anew
    pub quiet : (i : ℕ) → RefusedOf F (λ c. makes F c || steps F c) f.block (earlier f i) (f.between i)
    -- each step is accepted
    pub accepted : (i : ℕ) → refusal_in (stepped_at f i (point f i)).word ≡ 0

  -- what is watched of it: devices in the block, answers in the words, and the caller's frame
  abbrev pub watched_by : FaceRun F a → Watched M a
  watched_by f =
      record {
        table = f.table;
        ready = λ i. F.device (block_after F f.block (point f i).calls);
        answer = λ i. told_by (stepped_at f i (point f i)).word (F.device (stepped_at f i (point f i)).block);
        vram = f.vram;
        scroll = λ i. latched_along M (λ h. F.device (block_after F f.block h)) (step_at f i (point f i) ∷ (point f i).calls);
        frame = λ n. (point f n).frame;
      }

-- WHAT HOLDS OF EVERY RUN ON RECORDS HOLDS OF EVERY RUN THROUGH THE FACE: every statement P on what is watched.
abbrev pub Through : {M : Machine} → Face M → M.Area → Type 1
Through {M} F a = (P : Watched M a → Type 0) → ((r : Run M a) → P (watched r)) → (f : FaceRun F a) → Goes f → P (watched_by f)
