-- What is watched of a run through a lawful face is what is watched of a run on records.
-- Assumes nothing.
use Rattle.std.specs.Prelude.{Ok}
use mathlib.Core.Path.{◌≡◌, refl, sym, ◌∙◌, ap, subst}
use mathlib.Core.Bool.{Bool, true, false, cond, not, ◌&&◌, ◌||◌}
use mathlib.Core.List.{List, [], ◌∷◌, ◌++◌, append-nil}
use Prim.Native.Nat.{ℕ, zero, suc}
use lib.Dec.{eqb}
use lib.ListN.{length}
use Rattle.passes.specs.Machine.{Machine, register, line_of}
use Rattle.passes.specs.Pass.{History, device_after, becomes_zero, latched_along, latched, Between, then, Run, until, through, ready, answer, frame_at, Watched}
use Rattle.passes.specs.Pass.{watched}
use Rattle.passes.proofs.Lawful.{Lawful}
use Rattle.passes.proofs.Sound.{sound}
use Rattle.demands_face.specs.Face.{Face, told_by, makes, steps, block_after, RefusedOf, FaceRun, step_at, stepped_at, point, Goes, watched_by, Through}
use Rattle.demands_face.proofs.Lawful.{Fine, fine, Does, stays, does, Quietly, stays_so, does_so, Steps, LawfulFace}

not_both : (b : Bool) → (not b && b) ≡ false
not_both true = refl
not_both false = refl

-- calls, the first one first, with one more at the end
then_more : {M : Machine} (bs : List (Between M)) (c : Between M) (h : History M) → then {M = M} (bs ++ (c ∷ [])) h ≡ c.call ∷ then {M = M} bs h
unfolding then
then_more [] c h = refl
then_more {M} (b ∷ bs) c h = then_more {M = M} bs c (b.call ∷ h)

module _ {M : Machine} (ok : Lawful M) {F : Face M} (law : LawfulFace F) {a : M.Area} (f : FaceRun F a) (g : Goes f) where
  abbrev block : List F.Call → List ℕ
  block h = block_after F f.block h

  abbrev dev : List F.Call → M.Device
  dev h = F.device (block h)

  abbrev after : History M → M.Device
  after k = device_after M f.table k

  -- ---- after the calls h of the face the block stands for the device after the calls k of the machine, and both have latched one scroll
  record Held (h : List F.Call) (k : History M) : Type 0 where
    stands : law.Stands (block h) (after k)
    scroll : latched_along M dev h ≡ latched M f.table k

  fine_at : (k : History M) → Fine M (after k)
  fine_at k = fine (sound ok f.table k)

  held_device : {h : List F.Call} {k : History M} → Held h k → dev h ≡ after k
  held_device w = law.in_block w.stands

  held_stays : (c : F.Call) {h : List F.Call} {k : History M} → Held h k → (F.called c (block h)).block ≡ block h → Held (c ∷ h) k
  unfolding block_after latched_along
  held_stays c {h} {k} w e =
      record {
        stands = subst (λ (b : List ℕ). law.Stands b (after k)) (sym e) w.stands;
        scroll =
            ap (λ (b : List ℕ). cond (becomes_zero M (dev h) (F.device b)) (register M (dev h) 9) (latched_along M dev h)) e
            ∙ ap (λ (t : Bool). cond t (register M (dev h) 9) (latched_along M dev h)) (not_both (eqb (line_of M (dev h)) 0))
            ∙ w.scroll;
      }

  held_does : (c : F.Call) {h : List F.Call} {k : History M} (x : M.Call) → Held h k → law.Stands (F.called c (block h)).block
      (M.after x (after k)) → Held (c ∷ h) (x ∷ k)
  unfolding block_after latched_along device_after
  held_does c {h} {k} x w s = record { stands = s; scroll = rw (law.in_block s, held_device w, w.scroll) }

  -- ---- the calls before the run
  record Before (h : List F.Call) : Type 0 where
    calls : History M
    held : Held h calls

  before : (cs : List F.Call) → RefusedOf F (makes F) f.block [] cs → Before cs
  unfolding RefusedOf block_after latched_along device_after
  before [] q = record { calls = []; held = record { stands = law.made_stands f.table f.block g.made; scroll = refl } }
  before (c ∷ cs) q = go (before cs q.1)
    where
      go : Before cs → Before (c ∷ cs)
      go w = by (law.calls c (block cs) (after w.calls) (fine_at w.calls) w.held.stands (λ m. rw (append-nil cs) at (q.0 m)))
        where
          by : Does M law.Stands (block cs) (after w.calls) (F.called c (block cs)).block → Before (c ∷ cs)
          by (stays e) = record { calls = w.calls; held = held_stays c w.held e }
          by (does x s) = record { calls = x ∷ w.calls; held = held_does c x w.held s }

  -- ---- those between two steps
  record Between-them (h : List F.Call) (k : History M) : Type 0 where
    them : List (Between M)
    held : Held h (then {M = M} them k)

  between : (h : List F.Call) (k : History M) → Held h k → (cs : List F.Call) → RefusedOf F (λ c. makes F c || steps F c) f.block h cs →
      Between-them (cs ++ h) k
  unfolding RefusedOf then
  between h k w [] q = record { them = []; held = w }
  between h k w (c ∷ cs) q = go (between h k w cs q.1)
    where
      go : Between-them (cs ++ h) k → Between-them (c ∷ (cs ++ h)) k
      go v = by (law.quietly c (block (cs ++ h)) (after (then {M = M} v.them k)) (fine_at (then {M = M} v.them k)) v.held.stands q.0)
        where
          by : Quietly M law.Stands (block (cs ++ h)) (after (then {M = M} v.them k)) (F.called c (block (cs ++ h))).block → Between-them
              (c ∷ (cs ++ h)) k
          by (stays_so e) = record { them = v.them; held = held_stays c v.held e }
          by (does_so x s) =
              record {
                them = v.them ++ (x ∷ []);
                held = subst (Held (c ∷ (cs ++ h))) (sym (then_more {M = M} v.them x k)) (held_does c x.call v.held s);
              }

  -- ---- step by step
  abbrev step_of : ℕ → M.Call
  step_of i = M.frame_step a (f.vram i) (length f.frame)

  record At (i : ℕ) : Type 0 where
    early : History M
    them : List (Between M)
    held : Held (point f i).calls (then {M = M} them early)
    size : length (point f i).frame ≡ length f.frame

  abbrev calls_at : {i : ℕ} → At i → History M
  calls_at w = then {M = M} w.them w.early

  stepped : (i : ℕ) (w : At i) → Steps F law.Stands a (f.way i) (f.vram i) (point f i).frame (block (point f i).calls) (after (calls_at w))
  stepped i w = law.steps a (f.way i) (f.vram i) (point f i).frame (block (point f i).calls) (after (calls_at w)) w.held.stands
      (g.accepted i)

  held_step : (i : ℕ) (w : At i) → Held (step_at f i (point f i) ∷ (point f i).calls) (step_of i ∷ calls_at w)
  held_step i w =
      held_does (step_at f i (point f i)) (step_of i) w.held
      (subst (law.Stands (stepped_at f i (point f i)).block)
      (ap (λ (n : ℕ). (M.frame_step_of a (f.vram i) n (after (calls_at w))).device) w.size ∙ sym
      (ok.frame_left_lem a (f.vram i) (length f.frame) (after (calls_at w))))
      (stepped i w).stands)

  at : (i : ℕ) → At i
  unfolding point
  at zero =
      let b = before f.before g.one_device in
      let v = between f.before b.calls b.held (f.between 0) (g.quiet 0) in
      record { early = b.calls; them = v.them; held = v.held; size = refl }
  at (suc i) =
      let w = at i in
      let v = between (step_at f i (point f i) ∷ (point f i).calls) (step_of i ∷ calls_at w) (held_step i w) (f.between (suc i)) (g.quiet (suc i)) in
      record {
        early = step_of i ∷ calls_at w;
        them = v.them;
        held = v.held;
        size = ap length (stepped i w).lent ∙ ok.frame_length a (f.vram i) (after (calls_at w)) (point f i).frame ∙ w.size;
      }

  -- ---- the run
  abbrev run : Run M a
  run =
      record {
        table = f.table;
        before = (at 0).early;
        between = λ i. (at i).them;
        vram = f.vram;
        frame = f.frame;
        accepted = λ i d. subst (λ (n : ℕ). (M.frame_step_of a (f.vram i) n d).outcome ≡ (Ok tt)) (at i).size ((stepped i (at i)).accepted d);
      }

  until_is : (i : ℕ) → until run i ≡ calls_at (at i)
  unfolding until at
  until_is zero = refl
  until_is (suc i) = ap (λ (h : History M). then {M = M} (at (suc i)).them (step_of i ∷ h)) (until_is i)

  ready_is : (i : ℕ) → dev (point f i).calls ≡ ready run i
  unfolding ready
  ready_is i = held_device (at i).held ∙ ap after (sym (until_is i))

  answer_is : (i : ℕ) → told_by (stepped_at f i (point f i)).word (F.device (stepped_at f i (point f i)).block) ≡ answer run i
  unfolding answer ready
  answer_is i =
      (stepped i (at i)).told
      ∙ ap (λ (n : ℕ). M.frame_step_of a (f.vram i) n (after (calls_at (at i)))) (at i).size
      ∙ ap (λ (h : History M). M.frame_step_of a (f.vram i) (length f.frame) (after h)) (sym (until_is i))

  scroll_is : (i : ℕ) → latched_along M dev (step_at f i (point f i) ∷ (point f i).calls) ≡ latched M f.table (through run i)
  scroll_is i = (held_step i (at i)).scroll ∙ ap (λ (h : History M). latched M f.table (step_of i ∷ h)) (sym (until_is i))

  frame_is : (n : ℕ) → (point f n).frame ≡ frame_at run n
  unfolding frame_at point ready
  frame_is zero = refl
  frame_is (suc i) =
      (stepped i (at i)).lent
      ∙ ap (λ (h : History M). M.frame_after a (f.vram i) (after h) (point f i).frame) (sym (until_is i))
      ∙ ap (M.frame_after a (f.vram i) (after (until run i))) (frame_is i)

  same_watched : watched_by f ≡ watched run
  same_watched =
      λ j. record {
        table = f.table;
        ready = λ i. ready_is i j;
        answer = λ i. answer_is i j;
        vram = f.vram;
        scroll = λ i. scroll_is i j;
        frame = λ i. frame_is i j;
      }

pub through_face : {M : Machine} (ok : Lawful M) {F : Face M} (law : LawfulFace F) (a : M.Area) → Through F a
through_face ok law a P holds f g = subst P (sym (same_watched ok law f g)) (holds (run ok law f g))

-- what holds of two runs on records, one beside the other, holds of two through the face
pub both_through :
    {M : Machine} (ok : Lawful M) {F : Face M} (law : LawfulFace F) (a : M.Area) (P : Watched M a → Watched M a → Type 0) →
    ((r r₀ : Run M a) → P (watched r) (watched r₀)) → (f f₀ : FaceRun F a) → Goes f → Goes f₀ → P (watched_by f) (watched_by f₀)
both_through ok law a P holds f f₀ g g₀ =
    through_face ok law a (λ w. P w (watched_by f₀)) (λ r. through_face ok law a (P (watched r)) (holds r) f₀ g₀) f g
