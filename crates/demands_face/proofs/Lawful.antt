-- What the demands need of a machine's C face, law by law; each face shows them once (Handheld.antt, Home.antt).
-- Assumes nothing.
use Rattle.std.specs.Prelude.{Ok}
use mathlib.Core.Path.{◌≡◌}
use mathlib.Core.Logic.{◌≢◌}
use mathlib.Core.Bool.{true, ◌||◌}
use mathlib.Core.List.{List}
use Prim.Native.Nat.{ℕ}
use lib.ListN.{length}
use Rattle.raster.specs.declared.LineTable.{LineTable}
use Rattle.word.specs.Word.{refusal_in}
use Rattle.passes.specs.Machine.{Machine}
use Rattle.passes.specs.Pass.{Between}
use Rattle.passes.proofs.Lawful.{Clean, Aimed}
use Rattle.passes.proofs.Sound.{Sound}
use Rattle.demands_face.specs.Face.{Way, plain, Face, told_by, makes, steps, Refused}

-- clean colours are the palette's, and the address lies in its memory
pub record Fine (M : Machine) (d : M.Device) : Type 0 where
  pub clean : Clean M d
  pub aimed : Aimed M d

pub fine : {M : Machine} {d : M.Device} → Sound M d → Fine M d
fine s = record { clean = s.clean; aimed = s.aimed }

-- what a call does to the device that its block stands for, as S has it: nothing, and the block stays; or what a call of the machine does
pub data Does (M : Machine) (S : List ℕ → M.Device → Type 0) (b : List ℕ) (d : M.Device) (b' : List ℕ) : Type 0 where
  stays : b' ≡ b → Does M S b d b'
  does : (c : M.Call) → S b' (M.after c d) → Does M S b d b'

-- the same, where it is no accepted step
pub data Quietly (M : Machine) (S : List ℕ → M.Device → Type 0) (b : List ℕ) (d : M.Device) (b' : List ℕ) : Type 0 where
  stays_so : b' ≡ b → Quietly M S b d b'
  does_so : (c : Between M) → S b' (M.after c.call d) → Quietly M S b d b'

-- an accepted step on a frame is the machine's
pub record Steps {M : Machine} (F : Face M) (S : List ℕ → M.Device → Type 0) (a : M.Area) (w : Way) (vram frame : List ℕ) (b : List ℕ)
    (d : M.Device) : Type 0 where
  pub accepted : (d' : M.Device) → (M.frame_step_of a vram (length frame) d').outcome ≡ (Ok tt)
  pub told : told_by (F.called (F.on_frame_lem a w vram frame) b).word (F.device (F.called (F.on_frame_lem a w vram frame) b).block) ≡ M.frame_step_of a
      vram (length frame) d
  pub stands : S (F.called (F.on_frame_lem a w vram frame) b).block (M.frame_step_of a vram (length frame) d).device
  pub lent : (F.called (F.on_frame_lem a w vram frame) b).lent ≡ M.frame_after a vram d frame

-- a block that a call has made
pub record Begun {M : Machine} (F : Face M) (b : List ℕ) : Type 0 where
  pub table : LineTable
  pub made : F.Made table b

pub record LawfulFace {M : Machine} (F : Face M) : Type 1 where
  -- the block stands for the device
  pub Stands : List ℕ → M.Device → Type 0
  pub made_stands : (t : LineTable) (b : List ℕ) → F.Made t b → Stands b (M.made t)
  pub in_block : {b : List ℕ} {d : M.Device} → Stands b d → F.device b ≡ d
  -- a call that makes no device anew, one that is no accepted step either, and an accepted step on a frame
  pub calls :
      (c : F.Call) (b : List ℕ) (d : M.Device) → Fine M d → Stands b d → (makes F c ≡ true → Refused F c b) → Does M Stands b d
      (F.called c b).block
  pub quietly :
      (c : F.Call) (b : List ℕ) (d : M.Device) → Fine M d → Stands b d → ((makes F c || steps F c) ≡ true → Refused F c b) →
      Quietly M Stands b d (F.called c b).block
  pub steps :
      (a : M.Area) (w : Way) (vram frame b : List ℕ) (d : M.Device) → Stands b d → refusal_in (F.called (F.on_frame_lem a w vram frame) b).word ≡
      0 →
      Steps F Stands a w vram frame b d
  -- the step without layers is accepted where the machine's is
  pub takes :
      (a : M.Area) (vram frame b : List ℕ) (d : M.Device) → Stands b d → (M.frame_step_of a vram (length frame) d).outcome ≡ (Ok tt) →
      refusal_in (F.called (F.on_frame_lem a plain vram frame) b).word ≡ 0
  -- an accepted call that makes a device, and 7
  pub begun : (c : F.Call) (b : List ℕ) → makes F c ≡ true → refusal_in (F.called c b).word ≡ 0 → Begun F (F.called c b).block
  pub no_seven : (c : F.Call) (b : List ℕ) (d : M.Device) → Fine M d → Stands b d → refusal_in (F.called c b).word ≢ 7
