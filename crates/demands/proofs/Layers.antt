-- What a layer tells, and that layers change nothing else, proved.
-- Assumes nothing.
use Rattle.std.specs.Prelude.{None, Option, Some, ℕ, Err}
use mathlib.Core.Path.{◌≡◌, refl, sym, ap, ◌∙◌}
use mathlib.Core.Logic.{◌↔◌, ◌⊎◌, inl, inr, ⊎_elim}
use mathlib.Core.Bool.{Bool, true, false, cond, ◌&&◌, ◌||◌}
use mathlib.Core.List.{List, [], ◌∷◌}
use Prim.Native.Nat.{ℕ, ◌+◌, ◌-◌, ◌%◌, ◌<◌, ◌≤◌}
use native.Mathlib.Omega.{arith}
use lib.Dec.{eqb, leb}
use lib.ListN.{length, drop}
use lib.Seq.{drop_at}
use borrow.Author.Tests.{eqb-true, lt-ltb}
use Rattle.laws.specs.Lists.{at}
use Rattle.laws.specs.Table.{table}
use Rattle.laws.proofs.Tests.{split, both, clash}
use Rattle.laws.proofs.Tables.{length-table}
use Rattle.picture.specs.declared.Screen.{Screen}
use Rattle.picture.specs.declared.Screen.TheVariants.{VisibleOnly, EffectiveArea, TrueEdges, Home}
use Rattle.picture.specs.declared.RenderArea.{RenderArea}
use Rattle.picture.specs.View.{View}
use Rattle.picture.specs.Picture.{Canvas, back, front, bare, solid, held_back, drawn, sprite_code, with_sprite, with_sprites, picture, Row, filled}
use Rattle.picture.specs.Screen.{view_of, shown_on, covered, picture_of}
use Rattle.picture.specs.Area.{screen_of, columns}
use Rattle.picture.specs.Layers.{stopped, owned_by, layers_with, layers, layers_of, layers_in}
use Rattle.picture.proofs.Layers.{owned-drawn, owned_stopped, owned-left, colour_drawn, colour_left, drawn_solid, length-layers_in}
use Rattle.vdp.specs.declared.VdpState.{VdpState}
use Rattle.refusal.specs.declared.Refusal.TheVariants.{LayerLength}
use Rattle.refusal.specs.Refusals.{Line, first}
use Rattle.refusal.proofs.Tables.{Passed, passed, under_either}
use Rattle.step.specs.Step.{row_lines, frame_lines, reading_of, refused_step, stepped, step_with}
use Rattle.points.specs.Points.{coming_row}
use Rattle.points.specs.Bytes.{layers_by, row_filled, frame_filled, coming_layers, layers_filled, also_layers}
use Rattle.step.specs.Frame.{row_after, frame_after}
use Rattle.step.specs.Layers.{layers_after}
use Rattle.points.proofs.Laws.{row_refusing, frame_refusing}
use Rattle.points.proofs.Order.{under_also, not_last}
use Rattle.demands.specs.Layers.{stands_at, laid_on, column_at, code_in, held_at, NoneDrawn, LastDrawn, some, OneOf, Tells, Owned, OwnedOf, Aside}
use Rattle.demands.specs.Handheld.{handheld}
use Rattle.demands.specs.Home.{home}

-- ---- the sprites of a line, laid in turn on any canvas c with any layers `own`, at column x
module _ (m g : ℕ → ℕ) (v : View) (x : ℕ) where
  abbrev prio : ℕ → Bool
  prio = front m g v

  abbrev code : ℕ → ℕ → ℕ
  code n = sprite_code m g v.line n

  abbrev on : List ℕ → Canvas → Canvas
  on ns c = with_sprites m g v.stand v.line prio ns c

  abbrev told : List ℕ → Canvas → (ℕ → ℕ) → ℕ
  told ns c own = layers_with m g v.stand v.line prio ns c own x

  abbrev one : ℕ → Canvas → Canvas
  one n c = with_sprite m g v.stand v.line prio n c

  abbrev ones : ℕ → Canvas → (ℕ → ℕ) → ℕ → ℕ
  ones n c own = owned_by m g v.stand v.line prio n c own

  -- sprite n is drawn at x on this canvas; what it is held back by does not ask the canvas
  abbrev here : ℕ → Canvas → Bool
  here n c = leb (stands_at m g v n).x x && drawn (stands_at m g v n) (code n) prio c (column_at m g v n x)

  held_any : (n : ℕ) (c : Canvas) → (leb (stands_at m g v n).x x && stopped (stands_at m g v n) (code n) prio c (column_at m g v n x)) ≡ held_at m g v x
      n
  unfolding stopped held_back
  held_any n c = refl

  -- ---- one sprite: drawn, or held back on a column that was the background's, or neither
  module _ (n : ℕ) (c : Canvas) (own : ℕ → ℕ) where
    one_drawn : here n c ≡ true → (ones n c own x ≡ 64 + n) × ((one n c).colour x ≡ 16 + code_in m g v n x)
    unfolding owned_by with_sprite
    one_drawn e = (owned-drawn (stands_at m g v n) (code n) prio c n own x e, colour_drawn (stands_at m g v n) (code n) prio c n own x e)

    one_held : here n c ≡ false → held_at m g v x n ≡ true → own x ≡ 0 → ones n c own x ≡ 1
    unfolding owned_by
    one_held e h z = owned_stopped (stands_at m g v n) (code n) prio c n own x e (held_any n c ∙ h) z

    one_left : here n c ≡ false → (held_at m g v x n && eqb (own x) 0) ≡ false → ones n c own x ≡ own x
    unfolding owned_by
    one_left e h = owned-left (stands_at m g v n) (code n) prio c n own x e (ap (λ (b : Bool). b && eqb (own x) 0) (held_any n c) ∙ h)

    one_colour : here n c ≡ false → (one n c).colour x ≡ c.colour x
    unfolding with_sprite
    one_colour e = colour_left (stands_at m g v n) (code n) prio c n own x e

    -- the layer after it, where it is not drawn: 1, or what it was
    after : here n c ≡ false → ((held_at m g v x n && eqb (own x) 0) ≡ true → (own x ≡ 0) × ((held_at m g v x n ≡ true) × (ones n c own x ≡ 1)))
    after e h =
        let p = both (held_at m g v x n) (eqb (own x) 0) h in
        let z = eqb-true (own x) 0 p.1 in
        (z, (p.0, one_held e p.0 z))

  -- ---- all of a list
  unmoved : (n : ℕ) (c : Canvas) (own : ℕ → ℕ) → here n c ≡ false → (ones n c own x < 2) → own x < 2
  unmoved n c own e h =
      split (held_at m g v x n && eqb (own x) 0) (λ t. let z = (after n c own e t).0 in omega arith) (λ t. let z = one_left n c own e t in omega arith)

  behind_all : (ns : List ℕ) (c : Canvas) (own : ℕ → ℕ) → told ns c own < 2 → (own x < 2) × ((on ns c).colour x ≡ c.colour x)
  unfolding with_sprites layers_with
  behind_all [] c own h = (h, refl)
  behind_all (n ∷ ns) c own h =
      let r = behind_all ns (one n c) (ones n c own) h in
      split (here n c) (λ e. absurd (omega (arith, (one_drawn n c own e).0, r.0))) (λ e. (unmoved n c own e r.0, r.1 ∙ one_colour n c own e))

  -- what a colour has to be, for the layer to be sprite n's
  abbrev Shown : ℕ → ℕ → Type 0
  Shown n colour = (colour ≡ 16 + code_in m g v n x) × (solid (stands_at m g v n).start (stands_at m g v n).end (code n) (column_at m g v n x) ≡ true)

  shown_one : (n p : ℕ) (c : Canvas) (own : ℕ → ℕ) → (own x ≡ 64 + n → Shown n (c.colour x)) → ones p c own x ≡ 64 + n → Shown n ((one p c).colour x)
  shown_one n p c own q h =
      split (here p c)
      (λ e.
      let d = one_drawn p c own e in
      let k : p ≡ n = omega (arith, d.0) in
      let s = drawn_solid (stands_at m g v p) (code p) prio c p own x e in
      rw (← k) (d.1, s))
      (λ e.
      split (held_at m g v x p && eqb (own x) 0) (λ t. absurd (omega (arith, (after p c own e t).1.1)))
      (λ t. rw (one_colour p c own e) (q (sym (one_left p c own e t) ∙ h))))

  shown_all : (n : ℕ) (ns : List ℕ) (c : Canvas) (own : ℕ → ℕ) → (own x ≡ 64 + n → Shown n (c.colour x)) → told ns c own ≡ 64 + n → Shown n
      ((on ns c).colour x)
  unfolding with_sprites layers_with
  shown_all n [] c own q h = q h
  shown_all n (p ∷ ns) c own q h = shown_all n ns (one p c) (ones p c own) (shown_one n p c own q) h

  -- the kinds of layers, P holding of each sprite of the list
  abbrev Kind : (ℕ → Type 0) → ℕ → Type 0
  Kind P l = (l < 2) ⊎ ((64 ≤ l) × P (l - 64))

  kind_of : (P : ℕ → Type 0) {l k : ℕ} → l ≡ k → Kind P k → Kind P l
  kind_of P e q = rw e q

  kind_one : (P : ℕ → Type 0) (n : ℕ) (c : Canvas) (own : ℕ → ℕ) → P n → Kind P (own x) → Kind P (ones n c own x)
  kind_one P n c own p q =
      split (here n c)
      (λ e. let z : 64 + n - 64 ≡ n = omega arith in kind_of P (one_drawn n c own e).0 (inr (omega arith, rw z p)))
      (λ e.
      split (held_at m g v x n && eqb (own x) 0) (λ t. kind_of P (after n c own e t).1.1 (inl (omega arith)))
      (λ t. kind_of P (one_left n c own e t) q))

  kind_all : (P : ℕ → Type 0) (ns : List ℕ) (c : Canvas) (own : ℕ → ℕ) → ((n : ℕ) → OneOf ns n → P n) → Kind P (own x) → Kind P (told ns c own)
  unfolding layers_with
  kind_all P [] c own f q = q
  kind_all P (n ∷ ns) c own f q = kind_all P ns (one n c) (ones n c own) (λ k o. f k (inr o)) (kind_one P n c own (f n (inl refl)) q)

  held_all : (ns : List ℕ) (c : Canvas) (own : ℕ → ℕ) → told ns c own ≡ 1 → (own x ≡ 1) ⊎ (some ns (held_at m g v x) ≡ true)
  unfolding layers_with
  held_all [] c own h = inl h
  held_all (n ∷ ns) c own h =
      elim (held_all ns (one n c) (ones n c own) h) [
        | inl q ↦
            split (here n c) (λ e. absurd (omega (arith, (one_drawn n c own e).0)))
            (λ e.
            split (held_at m g v x n && eqb (own x) 0) (λ t. inr (rw (after n c own e t).1.0)) (λ t. inl (sym (one_left n c own e t) ∙ q)))
        | inr q ↦ inr (rw q (either_way (held_at m g v x n)))
      ]
    where
      either_way : (b : Bool) → (b || true) ≡ true
      either_way true = refl
      either_way false = refl

  none_all : (ns : List ℕ) (c : Canvas) (own : ℕ → ℕ) → told ns c own ≡ 0 → (own x ≡ 0) × (some ns (held_at m g v x) ≡ false)
  unfolding layers_with
  none_all [] c own h = (h, refl)
  none_all (n ∷ ns) c own h =
      let r = none_all ns (one n c) (ones n c own) h in
      split (here n c) (λ e. absurd (omega (arith, (one_drawn n c own e).0, r.0)))
      (λ e.
      split (held_at m g v x n && eqb (own x) 0) (λ t. absurd (omega (arith, (after n c own e t).1.1, r.0)))
      (λ t.
      let z : own x ≡ 0 = sym (one_left n c own e t) ∙ r.0 in
      (z, rw (not-held (held_at m g v x n) (ap (λ (k : ℕ). held_at m g v x n && eqb k 0) (sym z) ∙ t)) r.1)))
    where
      not-held : (b : Bool) → (b && true) ≡ false → b ≡ false
      not-held true e = e
      not-held false e = refl

  -- sprite n is the last one drawn, or none is and the layer was its already
  module _ (n : ℕ) where
    abbrev Last : List ℕ → Canvas → (ℕ → ℕ) → Type 0
    Last ns c own = LastDrawn m g v x n ns c ⊎ (NoneDrawn m g v x ns c × (own x ≡ 64 + n))

    -- a sprite that is not drawn leaves whether the layer is sprite n's
    left_so : (k : ℕ) (c : Canvas) (own : ℕ → ℕ) → here k c ≡ false → (ones k c own x ≡ 64 + n) ↔ (own x ≡ 64 + n)
    left_so k c own e =
        split (held_at m g v x k && eqb (own x) 0)
        (λ t.
        let a = after k c own e t in
        (λ q. absurd (omega (arith, a.1.1)), λ q. absurd (omega (arith, a.0))))
        (λ t. let a = one_left k c own e t in (λ q. sym a ∙ q, λ q. a ∙ q))

    last_one : (k : ℕ) (ns : List ℕ) (c : Canvas) (own : ℕ → ℕ) → Last ns (one k c) (ones k c own) ↔ Last (k ∷ ns) c own
    last_one k ns c own =
        split (here k c)
        (λ e.
        let d = (one_drawn k c own e).0 in (
          ⊎_elim (λ l. inl (inl l)) (λ q. inl (inr (omega (arith, d, q.1), e, q.0))),
          ⊎_elim (⊎_elim (λ l. inl l) (λ q. inr (q.2, d ∙ ap (λ (y : ℕ). 64 + y) q.0))) (λ q. clash (sym e ∙ q.0.0)),
        ))
        (λ e.
        let s = left_so k c own e in (
          ⊎_elim (λ l. inl (inl l)) (λ q. inr ((e, q.0), s.0 q.1)),
          ⊎_elim (⊎_elim (λ l. inl l) (λ q. clash (sym q.1 ∙ e))) (λ q. inr (q.0.1, s.1 q.1)),
        ))

    last_all : (ns : List ℕ) (c : Canvas) (own : ℕ → ℕ) → (told ns c own ≡ 64 + n) ↔ Last ns c own
    unfolding layers_with
    last_all [] c own = (λ h. inr (tt, h), ⊎_elim (λ l. absurd l) (λ q. q.1))
    last_all (k ∷ ns) c own =
        let w = last_all ns (one k c) (ones k c own) in
        let u = last_one k ns c own in
        (λ h. u.0 (w.0 h), λ h. w.1 (u.1 h))

-- R15.1: of every column of every row, in any view
owned_tells : (m g : ℕ → ℕ) (v : View) (x : ℕ) → Tells m g v x (layers m g v x) ((picture m g v).colour x)
unfolding layers picture bare
owned_tells m g v x =
    let ns = laid_on m g v in
    let c = bare (back m g v) in
    record {
      kind = kind_all m g v x (OneOf ns) ns c (λ k. 0) (λ n o. o) (inl (omega arith));
      behind = λ h. (behind_all m g v x ns c (λ k. 0) h).1;
      sprite = λ n h. shown_all m g v x n ns c (λ k. 0) (λ z. absurd (omega arith)) h;
      last = λ n.
          let w = last_all m g v x n ns c (λ k. 0) in
          (λ h. ⊎_elim (λ l. l) (λ q. absurd (omega (arith, q.1))) (w.0 h), λ l. w.1 (inl l));
      held = λ h. elim (held_all m g v x ns c (λ k. 0) h) [ inl z ↦ absurd (omega arith) | inr z ↦ z ];
      none = λ h. (none_all m g v x ns c (λ k. 0) h).1;
    }

-- R20.6: and on any screen, the fill among it
shown_colour : (s : Screen) (g : ℕ → ℕ) (p : Row) (x : ℕ) → (shown_on s g p).colour x ≡ cond (covered s g x) (16 + g 7 % 16) (p.colour x)
unfolding filled
shown_colour VisibleOnly g p x = refl
shown_colour EffectiveArea g p x = refl
shown_colour TrueEdges g p x = refl
shown_colour Home g p x = refl

module _ (s : Screen) (reg : List ℕ) (scroll : ℕ) (vram : List ℕ) (y x : ℕ) where
  abbrev view : View
  view = view_of s (at reg) scroll y

  layer_is : layers_of s reg scroll vram y x ≡ cond (covered s (at reg) x) 2 (layers (at vram) (at reg) view x)
  unfolding layers_of
  layer_is = refl

  colour_is : (picture_of s reg scroll vram y).colour x ≡ cond (covered s (at reg) x) (16 + at reg 7 % 16) ((picture (at vram) (at reg) view).colour x)
  unfolding picture_of
  colour_is = shown_colour s (at reg) (picture (at vram) (at reg) view) x

  pub owned-on : Owned s reg scroll vram y x
  owned-on =
      record {
        filled = λ e. (layer_is ∙ rw e, colour_is ∙ rw e);
        shown = λ e.
            let l : layers_of s reg scroll vram y x ≡ layers (at vram) (at reg) view x = layer_is ∙ rw e in
            let c : (picture_of s reg scroll vram y).colour x ≡ (picture (at vram) (at reg) view).colour x = colour_is ∙ rw e in
            rw (l, c) (owned_tells (at vram) (at reg) view x);
      }

pub owned-handheld : OwnedOf handheld
owned-handheld a vram d y x = owned-on (screen_of a) d.reg d.raster.vertical_scroll vram y x

pub owned-home : OwnedOf home
owned-home a vram h y x = owned-on Home h.front.reg h.raster.vertical_scroll vram y x

-- ---- a step
module _ (a : RenderArea) (vram : List ℕ) (d : VdpState) (pixels layers : List ℕ) where
  abbrev layers_told : Option ℕ → List ℕ
  layers_told r = layers_by r (screen_of a) (coming_layers (screen_of a) vram (reading_of d)) layers

  -- the layer buffer with a row's layers: its length, and what is behind them
  length-by : (r : Option ℕ) → length (layers_told r) ≡ length layers
  unfolding layers_by
  length-by None = refl
  length-by (Some y) = length-layers_in layers (columns a) (coming_layers (screen_of a) vram (reading_of d) y)

  behind : (f : ℕ → ℕ) → drop (columns a) (layers_in layers (columns a) f) ≡ drop (columns a) layers
  unfolding layers_in
  behind f =
      split (leb (columns a) (length layers)) (λ e. rw e (drop_at (table (columns a) f) (drop (columns a) layers) (columns a)
      (length-table (columns a) f))) (λ e. rw e)

  past_by : (r : Option ℕ) → drop (columns a) (layers_told r) ≡ drop (columns a) layers
  unfolding layers_by
  past_by None = refl
  past_by (Some y) = behind (coming_layers (screen_of a) vram (reading_of d) y)

last_of : (least size : ℕ) (ls : List Line) → size < least → Passed ls → first (also_layers least size ls) ≡ (Err LayerLength)
last_of least size [] h p = rw (lt-ltb size least h)
last_of least size (l ∷ ls) h p = rw p.0 (last_of least size ls h p.1)

-- R15.3, R15.4: of every step
pub aside : (a : RenderArea) (vram : List ℕ) (d : VdpState) (pixels layers : List ℕ) → Aside a vram d pixels layers
unfolding step_with row_after frame_after layers_after
aside a vram d pixels layers =
    let rows = row_lines a vram (length pixels) in
    let frames = frame_lines a vram (length pixels) in
    let w = columns a in
    let n = length layers in
    record {
      row_answer = λ h. under_also w n rows (λ r. refused_step r d) (stepped a vram d) h;
      row_pixels = λ h. under_also w n rows (λ r. pixels) (row_filled (screen_of a) vram (reading_of d) pixels) h;
      frame_answer = λ h. under_also w n frames (λ r. refused_step r d) (stepped a vram d) h;
      frame_pixels = λ h. under_also w n frames (λ r. pixels) (frame_filled (screen_of a) vram (reading_of d) pixels) h;
      row_short = λ h e. last_of w n rows h (passed rows (row_refusing (screen_of a) vram (length pixels)) e);
      frame_short = λ h e. last_of w n frames h (passed frames (frame_refusing (screen_of a) vram (length pixels)) e);
      refused = λ ls e. not_last w n ls e;
      size =
          λ ls.
          under_either (λ (l : List ℕ). length l ≡ length layers) ls (λ r. layers) (layers_filled (screen_of a) vram (reading_of d) layers) (λ r. refl)
          (λ p. length-by a vram d pixels layers (coming_row (screen_of a) (reading_of d)));
      past =
          λ ls.
          under_either (λ (l : List ℕ). drop (columns a) l ≡ drop (columns a) layers) ls (λ r. layers)
          (layers_filled (screen_of a) vram (reading_of d) layers) (λ r. refl)
          (λ p. past_by a vram d pixels layers (coming_row (screen_of a) (reading_of d)));
    }
