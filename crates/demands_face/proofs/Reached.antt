-- Of a lawful face: a block that a call has made stands for a fresh device after calls, and so no call answers 7. One that stands for some device with clean
-- colours that match and an address in its memory goes on to.
-- Assumes nothing.
use mathlib.Core.Path.{sym, ◌∙◌, subst}
use mathlib.Core.List.{List, [], ◌∷◌}
use Prim.Native.Nat.{ℕ}
use lib.Dec.{eqb}
use borrow.Author.Tests.{eqb-true, eqb-false}
use Rattle.laws.proofs.Tests.{split, clash}
use Rattle.raster.specs.declared.LineTable.{LineTable}
use Rattle.word.specs.Word.{refusal_in}
use Rattle.passes.specs.Machine.{Machine}
use Rattle.passes.specs.Pass.{History, device_after}
use Rattle.passes.proofs.Lawful.{Lawful}
use Rattle.passes.proofs.Sound.{sound}
use Rattle.demands_face.specs.Face.{Face, makes, block_after}
use Rattle.demands_face.specs.Seven.{NoSeven, FaceNeverSeven}
use Rattle.demands_face.proofs.Lawful.{Fine, fine, Does, stays, does, LawfulFace}

-- a call goes on from a device, or begins a new one in the block
data Goes_on (M : Machine) (S : List ℕ → M.Device → Type 0) (b : List ℕ) (d : M.Device) (b' : List ℕ) : Type 0 where
  goes_on : Does M S b d b' → Goes_on M S b d b'
  begins : (t : LineTable) → S b' (M.made t) → Goes_on M S b d b'

module _ {M : Machine} (ok : Lawful M) {F : Face M} (law : LawfulFace F) where
  goes : (c : F.Call) (b : List ℕ) (d : M.Device) → Fine M d → law.Stands b d → Goes_on M law.Stands b d (F.called c b).block
  goes c b d k s =
      split (makes F c)
      (λ m.
      split (eqb (refusal_in (F.called c b).word) 0)
      (λ z.
      let new = law.begun c b m (eqb-true (refusal_in (F.called c b).word) 0 z) in
      begins new.table (law.made_stands new.table (F.called c b).block new.made))
      (λ z. goes_on (law.calls c b d k s (λ _. eqb-false (refusal_in (F.called c b).word) 0 z))))
      (λ m. goes_on (law.calls c b d k s (λ e. clash (sym e ∙ m))))

  -- ---- a block that a call has made
  pub record Reached (b : List ℕ) : Type 0 where
    pub table : LineTable
    pub calls : History M
    pub stands : law.Stands b (device_after M table calls)

  pub reached : (t : LineTable) (b : List ℕ) → F.Made t b → (h : List F.Call) → Reached (block_after F b h)
  unfolding block_after device_after
  reached t b w [] = record { table = t; calls = []; stands = law.made_stands t b w }
  reached t b w (c ∷ h) = go (reached t b w h)
    where
      go : Reached (block_after F b h) → Reached (F.called c (block_after F b h)).block
      go r = by (goes c (block_after F b h) (device_after M r.table r.calls) (fine (sound ok r.table r.calls)) r.stands)
        where
          by : Goes_on M law.Stands (block_after F b h) (device_after M r.table r.calls) (F.called c (block_after F b h)).block → Reached
              (F.called c (block_after F b h)).block
          by (goes_on (stays e)) = subst Reached (sym e) r
          by (goes_on (does x s)) = record { table = r.table; calls = x ∷ r.calls; stands = s }
          by (begins u s) = record { table = u; calls = []; stands = s }

  pub never_seven : (t : LineTable) (b : List ℕ) → F.Made t b → (h : List F.Call) → FaceNeverSeven F b h
  never_seven t b w h =
      let r = reached t b w h in
      record {
        no_seven = λ c. law.no_seven c (block_after F b h) (device_after M r.table r.calls) (fine (sound ok r.table r.calls)) r.stands;
        table = r.table;
        calls = r.calls;
        device = law.in_block r.stands;
      }

  -- ---- any other
  pub record Good (b : List ℕ) : Type 0 where
    pub device : M.Device
    pub stands : law.Stands b device
    pub right : Fine M device

  good_after : (b : List ℕ) → Good b → (h : List F.Call) → Good (block_after F b h)
  unfolding block_after device_after
  good_after b g [] = g
  good_after b g (c ∷ h) = go (good_after b g h)
    where
      go : Good (block_after F b h) → Good (F.called c (block_after F b h)).block
      go r = by (goes c (block_after F b h) r.device r.right r.stands)
        where
          by : Goes_on M law.Stands (block_after F b h) r.device (F.called c (block_after F b h)).block → Good (F.called c (block_after F b h)).block
          by (goes_on (stays e)) = subst Good (sym e) r
          by (goes_on (does x s)) =
              let l = ok.left x r.device in
              record {
                device = M.after x r.device;
                stands = s;
                right = record { clean = l.clean r.right.clean; aimed = l.aimed r.right.aimed };
              }
          by (begins u s) = record { device = M.made u; stands = s; right = fine (sound ok u []) }

  pub good_answers : (b : List ℕ) → Good b → (h : List F.Call) → NoSeven F b h
  good_answers b g h c =
      let r = good_after b g h in
      law.no_seven c (block_after F b h) r.device r.right r.stands
