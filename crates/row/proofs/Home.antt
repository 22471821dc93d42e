-- The home machine's background, two runs side by side with their masks joined, the fill over a finished row, and the row of each screen.
-- Assumes nothing.
use mathlib.Core.Path.{◌≡◌, refl, sym, ap, ◌∙◌}
use mathlib.Core.List.{List, ◌++◌}
use mathlib.Core.Bool.{Bool, true, false, cond, ◌&&◌, and-true}
use Prim.Native.Nat.{ℕ, zero, suc, ◌+◌, ◌-◌, ◌*◌, ◌/◌, ◌%◌, ◌<◌, ◌≤◌}
use native.Mathlib.Decide.{dec_lt}
use native.Mathlib.Nat.{zero-add}
use native.Mathlib.Omega.{arith}
use lib.Dec.{ltb, leb}
use lib.ListN.{length, set, take, length-set}
use lib.Seq.{set-append_left, length-take-le}
use borrow.Rule.Slice.PartMut.{mid_of, post_of, put_mid, put_same, mid_len}
use borrow.Author.Tests.{lt-ltb, le-ltb, le-leb, lt-leb}
use Rattle.laws.specs.Bits.{bit}
use Rattle.laws.specs.Lists.{at}
use Rattle.laws.specs.Paint.{put, painted}
use Rattle.laws.proofs.Paint.{length-painted, painted_cong, painted_step, painted_on, painted_overlaid, overlaid_painted, overlay_at}
use Rattle.laws.proofs.Parts.{set_past}
use Rattle.laws.proofs.Tests.{cond-in}
use Rattle.bitmap.specs.Mask.{bytes_of, joined}
use Rattle.bitmap.proofs.Circle.{bytes_of_ext, joined_bytes_of}
use Rattle.picture.specs.declared.Screen.{Screen}
use Rattle.picture.specs.declared.Screen.TheVariants.{VisibleOnly, EffectiveArea, TrueEdges, Home}
use Rattle.picture.specs.Tile.{names_at}
use Rattle.picture.specs.View.{View, early, visible, effective, true_edges, home}
use Rattle.picture.specs.Picture.{back, front, picture, fills, filled}
use Rattle.picture.specs.Layers.{layers, layers_of, layers_in}
use Rattle.picture.proofs.Layers.{cover_layers, cover_off}
use Rattle.picture.specs.Screen.{columns, row_size, view_of, picture_of}
use Rattle.background.specs.Background.{back_colour, back_front, shade, prio_to, home_column, home_last}
use Rattle.background.proofs.Home.{prio_own, home_back_at, home_front_at}
use Rattle.stand.specs.Stand.{stand_of}
use Rattle.row.specs.declared.Back.{Back}
use Rattle.row.specs.Row.{Drawn, Backed, fill_on}
use Rattle.row.proofs.Laws.{as_bytes, row_is, Sprites}

-- ---- what is painted into a part of a row is painted into the row
module _ (p q : List ℕ) (x : ℕ) (pl : length p ≡ x * 4) where
  set_in : (ys : List ℕ) (j v : ℕ) {l : List ℕ} {k : ℕ} → p ++ (ys ++ q) ≡ l → j < length ys → x * 4 + j ≡ k → p ++ (set ys j v ++ q) ≡ set l k v
  set_in ys j v e h d = ap (λ (z : List ℕ). p ++ z) (sym (set-append_left ys q j v h)) ∙ sym (set_past p (ys ++ q) (x * 4) j v pl) ∙ rw (e, d)

  put_in : (ys : List ℕ) (i c : ℕ) {l : List ℕ} → p ++ (ys ++ q) ≡ l → i * 4 + 4 ≤ length ys → p ++ (put ys i c ++ q) ≡ put l (x + i) c
  unfolding put
  put_in ys i c e h =
      let ys₁ : List ℕ = set ys (i * 4) (c % 256) in
      let ys₂ : List ℕ = set ys₁ (i * 4 + 1) (c / 256 % 256) in
      let ys₃ : List ℕ = set ys₂ (i * 4 + 2) (c / 65536 % 256) in
      set_in ys₃ (i * 4 + 3) _
      (set_in ys₂ (i * 4 + 2) _
      (set_in ys₁ (i * 4 + 1) _
      (set_in ys (i * 4) _ e (omega arith) (omega arith))
      (simp length-set (omega arith)) (omega arith))
      (simp length-set (omega arith)) (omega arith))
      (simp length-set (omega arith)) (omega arith)

  painted_in : (ys : List ℕ) (n : ℕ) (f : ℕ → ℕ) → n * 4 ≤ length ys → p ++ (painted ys 0 n f ++ q) ≡ painted (p ++ (ys ++ q)) x n f
  unfolding painted
  painted_in ys zero f h = refl
  painted_in ys (suc n) f h =
      let r : n * 4 + 4 ≤ length (painted ys 0 n f) = rw length-painted (omega arith) in
      rw (zero-add n) (put_in (painted ys 0 n f) n (f n) (painted_in ys n f (omega arith)) r)

-- the columns from 192 on, as a part of the row
part_painted : (l : List ℕ) (f : ℕ → ℕ) {ys : List ℕ} → 1024 ≤ length l → ys ≡ painted (mid_of 768 256 l) 0 64 f → put_mid 768 256 l ys ≡ painted l 192
    64 f
part_painted l f h e =
    let r : 64 * 4 ≤ length (mid_of 768 256 l) = omega (arith, mid_len 768 1024 l h) in
    ap (λ (z : List ℕ). put_mid 768 256 l z) e
    ∙ painted_in (take 768 l) (post_of 768 256 l) 192 (length-take-le 768 l (omega arith)) (mid_of 768 256 l) 64 f r
    ∙ ap (λ (z : List ℕ). painted z 192 64 f) (put_same 768 256 l)

pub home_runs : (row₀ : List ℕ) (f g : ℕ → ℕ) {row₁ ys : List ℕ} → 1024 ≤ length row₀ → row₁ ≡ painted row₀ 0 192 f → ys ≡ painted
    (mid_of 768 256 row₁) 0 64 g
    → put_mid 768 256 row₁ ys ≡ painted (painted row₀ 0 192 f) 192 64 g
home_runs row₀ f g {row₁} h e d =
    let r : 1024 ≤ length row₁ = rw (e, length-painted) h in
    part_painted row₁ g r d ∙ ap (λ (z : List ℕ). painted z 192 64 g) e

-- ---- what the two runs show is what the view asks of the map
module _
    (vram reg : List ℕ) (names sx y last scroll line : ℕ) (low : at reg 8 < 256) (ne : names ≡ names_at (at reg))
    (se : sx ≡ home_column reg line) (ye : y ≡ (line + scroll) % 224) (le : last ≡ home_last reg line y)
  where
    abbrev v : View
    v = home (at reg) scroll line

    further : (i : ℕ) → ((sx + 192) % 256 + i) % 256 ≡ (sx + (192 + i)) % 256
    further i = omega arith

    back_left : (x : ℕ) → x < 192 → back_colour vram names sx y x ≡ back (at vram) (at reg) v x
    back_left x h =
        let b : x < 256 = omega arith in
        rw (lt-leb 192 x h) at (home_back_at vram reg names sx y last scroll line low ne se ye le x b)

    back_right : (i : ℕ) → i < 64 → back_colour vram names ((sx + 192) % 256) last i ≡ back (at vram) (at reg) v (192 + i)
    unfolding back_colour
    back_right i h =
        let b : 192 + i < 256 = omega arith in
        let d : 192 ≤ 192 + i = omega arith in
        rw (further i) (rw (le-leb 192 (192 + i) d) at (home_back_at vram reg names sx y last scroll line low ne se ye le (192 + i) b))

    pub home_back : (row₀ colours : List ℕ)
        → painted (painted row₀ 0 192 (shade colours (back_colour vram names sx y))) 192 64
        (shade colours (back_colour vram names ((sx + 192) % 256) last))
        ≡ painted row₀ 0 256 (λ x. at colours (back (at vram) (at reg) v x))
    home_back row₀ colours =
        painted_on row₀ 192 64 (λ x. at colours (back (at vram) (at reg) v x))
        (painted_cong row₀ 0 192 (shade colours (back_colour vram names sx y)) (λ x. at colours (back (at vram) (at reg) v x))
        (λ x h. ap (at colours) (back_left x h)))
        (painted_cong (painted row₀ 0 192 (shade colours (back_colour vram names sx y))) 192 64
        (shade colours (back_colour vram names ((sx + 192) % 256) last)) (λ i. at colours (back (at vram) (at reg) v (192 + i)))
        (λ i h. ap (at colours) (back_right i h)))

    front_left : (i : ℕ) → i < 192 → prio_to vram names sx y 0 192 i ≡ front (at vram) (at reg) v i
    front_left i h =
        let b : i < 256 = omega arith in
        prio_own vram names sx y 192 i (omega arith) h
        ∙ (rw (lt-leb 192 i h) at (home_front_at vram reg names sx y last scroll line low ne se ye le i b))

    front_right : (i : ℕ) → 192 ≤ i → i < 256 → prio_to vram names ((sx + 192) % 256) last 0 64 (i - 192) ≡ front (at vram) (at reg) v i
    unfolding back_front
    front_right i h b =
        let k : i - 192 < 64 = omega arith in
        let d : ((sx + 192) % 256 + (i - 192)) % 256 ≡ (sx + i) % 256 = omega arith in
        prio_own vram names ((sx + 192) % 256) last 64 (i - 192) (omega arith) k
        ∙ rw d (rw (le-leb 192 i h) at (home_front_at vram reg names sx y last scroll line low ne se ye le i b))

    pub home_front : joined (bytes_of (prio_to vram names sx y 0 192)) (bytes_of (prio_to vram names ((sx + 192) % 256) last 0 64)) ≡ bytes_of
        (front (at vram) (at reg) v)
    home_front =
        joined_bytes_of _ _
        ∙ bytes_of_ext _ _
        (λ i b.
        elim (dec_lt i 192) [
          | yes h ↦ rw (lt-ltb i 192 h) (front_left i h)
          | no h ↦ let k : 192 ≤ i = omega arith in rw (le-ltb i 192 k) (front_right i k b)
        ])

-- ---- the fill
-- one pixel more of it
pub fill_step : (row₀ : List ℕ) (i c : ℕ) {row row' : List ℕ} → row ≡ painted row₀ 0 i (λ k. c) → row' ≡ put row i c → row' ≡ painted row₀ 0 (i + 1)
    (λ k. c)
fill_step row₀ i c {row} e p = painted_step row₀ 0 i (λ k. c) e refl (p ∙ ap (λ (k : ℕ). put row k c) (sym (zero-add i)))

first_test : (t u s : Bool) (c d : ℕ) → t ≡ true → u ≡ s → cond (t && (u && true)) c d ≡ cond s c d
first_test t u s c d e q = rw (e, q, and-true s)

fill_painted : (row₀ : List ℕ) (f : ℕ → ℕ) (c : ℕ) → 1024 ≤ length row₀ → painted (painted row₀ 0 256 f) 0 8 (λ i. c) ≡ painted row₀ 0 256
    (λ x. cond (ltb x 8) c (f x))
fill_painted row₀ f c h =
    painted_overlaid (painted row₀ 0 256 f) 0 8 (λ i. c)
    ∙ overlaid_painted row₀ 256 f 0 8 (λ i. true) (λ i. c) (λ i l e. omega arith) (omega arith)
    ∙ painted_cong row₀ 0 256 _ (λ x. cond (ltb x 8) c (f x))
    (λ x l.
    let z : 0 ≤ x = omega arith in
    let d : x - 0 ≡ x = omega arith in
    overlay_at f 0 8 (λ i. true) (λ i. c) x ∙ first_test (leb 0 x) (ltb (x - 0) 8) (ltb x 8) c (f x) (le-leb 0 x z) (ap (λ (k : ℕ). ltb k 8) d))

-- over a row of colours, where it is on
over_colours : (t : Bool) (row₀ colours : List ℕ) (f : ℕ → ℕ) (n : ℕ) → 1024 ≤ length row₀
    → cond t (painted (painted row₀ 0 256 (λ x. at colours (f x))) 0 8 (λ i. at colours n)) (painted row₀ 0 256 (λ x. at colours (f x)))
    ≡ painted row₀ 0 256 (λ x. at colours (cond (t && ltb x 8) n (f x)))
over_colours true row₀ colours f n h =
    fill_painted row₀ (λ x. at colours (f x)) (at colours n) h
    ∙ painted_cong row₀ 0 256 (λ x. cond (ltb x 8) (at colours n) (at colours (f x))) (λ x. at colours (cond (ltb x 8) n (f x)))
    (λ x l. cond-in (at colours) (ltb x 8) n (f x))
over_colours false row₀ colours f n h = refl

shown_row : (t : Bool) (row₀ colours : List ℕ) (f : ℕ → ℕ) (n : ℕ) {row₂ row₃ : List ℕ} → 1024 ≤ length row₀
    → row₂ ≡ painted row₀ 0 256 (λ x. at colours (f x)) → row₃ ≡ cond t (painted row₂ 0 8 (λ i. at colours n)) row₂
    → row₃ ≡ painted row₀ 0 256 (λ x. at colours (cond (t && ltb x 8) n (f x)))
shown_row t row₀ colours f n h re fe =
    fe
    ∙ ap (λ (z : List ℕ). cond t (painted z 0 8 (λ i. at colours n)) z) re
    ∙ over_colours t row₀ colours f n h

-- ---- the row of a screen: its background, its sprites over that, and the fill over all
module _
    (vram reg : List ℕ) (scroll line : ℕ) (row₀ layers₀ colours : List ℕ) {row₁ row₂ row₃ layers₁ layers₂ layers₃ : List ℕ} {hit ninth : Bool} {bits : ℕ}
  where
    by_screen : (s : Screen) (prio : List ℕ) → row_size s ≤ length row₀
        → row₁ ≡ painted row₀ 0 (columns s) (λ x. at colours (back (at vram) (at reg) (view_of s (at reg) scroll line) x))
        → prio ≡ bytes_of (front (at vram) (at reg) (view_of s (at reg) scroll line)) → layers₁ ≡ layers_in layers₀ (columns s) (λ x. 0)
        → Sprites (at vram) (at reg) (stand_of s (early (at reg))) (view_of s (at reg) scroll line).line colours (columns s) prio row₁ row₂ layers₁
        layers₂ hit ninth
        → bits ≡ cond hit 32 0 + cond ninth 64 0
        → row₃ ≡ cond (fill_on s (at reg)) (painted row₂ 0 8 (λ i. at colours (16 + at reg 7 % 16))) row₂
        → layers₃ ≡ layers_in layers₂ 256 (λ x. cond (fill_on s (at reg) && ltb x 8) 2 (at layers₂ x))
        → Drawn s colours (picture_of s reg scroll vram line) row₀ row₃ bits × (layers₃ ≡ layers_in layers₀ (columns s) (layers_of s reg scroll vram line))
    unfolding picture_of layers_of visible effective true_edges home filled picture
    by_screen VisibleOnly prio room re pe le drawn be fe ue =
        let v = visible (at reg) scroll line in
        let d = row_is (at vram) (at reg) v row₀ layers₀ colours room (drawn row₀ layers₀ (front (at vram) (at reg) v) (back (at vram) (at reg) v) pe re le)
        be in
        (record { bytes = fe ∙ d.0; status = d.1 }, ue ∙ sym (cover_off layers₂ 256) ∙ d.2)
    by_screen EffectiveArea prio room re pe le drawn be fe ue =
        let v = effective (at reg) line in
        let d = row_is (at vram) (at reg) v row₀ layers₀ colours room (drawn row₀ layers₀ (front (at vram) (at reg) v) (back (at vram) (at reg) v) pe re le)
        be in
        (record { bytes = fe ∙ d.0; status = d.1 }, ue ∙ sym (cover_off layers₂ 256) ∙ d.2)
    by_screen TrueEdges prio room re pe le drawn be fe ue =
        let v = true_edges (at reg) scroll line in
        let d = row_is (at vram) (at reg) v row₀ layers₀ colours room (drawn row₀ layers₀ (front (at vram) (at reg) v) (back (at vram) (at reg) v) pe re le)
        be in
        (record { bytes = fe ∙ d.0; status = d.1 }, ue ∙ sym (cover_off layers₂ 256) ∙ d.2)
    by_screen Home prio room re pe le drawn be fe ue =
        let v = home (at reg) scroll line in
        let p = picture (at vram) (at reg) v in
        let f = drawn row₀ layers₀ (front (at vram) (at reg) v) (back (at vram) (at reg) v) pe re le in
        let d = row_is (at vram) (at reg) v row₀ layers₀ colours room f be in (
          record {
            bytes = as_bytes row₀ colours 256 (filled (at reg) p)
                (shown_row (bit (at reg 0) 5) row₀ colours (λ x. p.colour x) (16 + at reg 7 % 16) room f.bytes fe) room;
            status = d.1;
          },
          cover_layers layers₀ 256 2 (fills (at reg)) (layers (at vram) (at reg) v) d.2 ue,
        )

    pub drawn_is : (s : Screen) (r : Back) → row_size s ≤ length row₀ → Backed s reg scroll vram colours line row₀ row₁ r
        → layers₁ ≡ layers_in layers₀ r.width (λ x. 0)
        → Sprites (at vram) (at reg) (stand_of s (early (at reg))) r.line colours r.width r.prio.bits row₁ row₂ layers₁ layers₂ hit ninth
        → bits ≡ cond hit 32 0 + cond ninth 64 0 → row₃ ≡ cond r.fill (painted row₂ 0 8 (λ i. at colours (16 + at reg 7 % 16))) row₂
        → layers₃ ≡ layers_in layers₂ 256 (λ x. cond (r.fill && ltb x 8) 2 (at layers₂ x))
        → Drawn s colours (picture_of s reg scroll vram line) row₀ row₃ bits × (layers₃ ≡ layers_in layers₀ (columns s) (layers_of s reg scroll vram line))
    drawn_is s r room b le drawn be fe ue =
        by_screen s r.prio.bits room b.bytes b.mask (rw b.wide at le) (rw (b.wide, b.below) at drawn) be (rw b.fill at fe)
        (rw b.fill at ue)
