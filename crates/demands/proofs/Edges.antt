-- Where an edge cuts nothing, areas 0 and 2 give the same row: sprite by sprite both canvases show the same, and one mask is the other, 48 + e places on.
-- Assumes nothing.
use mathlib.Core.Path.{◌≡◌, refl, sym, ap, ◌∙◌}
use mathlib.Core.Logic.{inl, inr, ⊎_elim}
use mathlib.Core.List.{List, [], ◌∷◌}
use mathlib.Core.Bool.{Bool, true, false, ◌&&◌, ◌||◌, not, and-false}
use Prim.Native.Nat.{ℕ, ◌+◌, ◌-◌, ◌*◌, ◌%◌, ◌<◌, ◌≤◌, min}
use native.Mathlib.Omega.{arith}
use lib.Dec.{eqb, ltb, leb}
use borrow.Author.Tests.{lt-ltb, le-ltb, ltb-true}
use Rattle.laws.specs.Bits.{bit, any}
use Rattle.laws.specs.Circle.{past}
use Rattle.laws.specs.Lists.{at}
use Rattle.laws.proofs.Any.{any_cong, any_none}
use Rattle.laws.proofs.Tests.{either, split, both, same_cond}
use Rattle.picture.specs.declared.Stand.{Stand}
use Rattle.picture.specs.declared.Screen.TheVariants.{VisibleOnly, TrueEdges}
use Rattle.picture.specs.View.{early, visible_end, visible_seen, visible_stand, visible, edge_stand, true_edges}
use Rattle.picture.specs.Picture.{Canvas, back, front, table_at, solid, held_back, marked, struck, drawn, laid, sprite_code, with_sprite, with_sprites}
use Rattle.picture.specs.Picture.{bare, picture}
use Rattle.picture.specs.Screen.{picture_of}
use Rattle.picture.specs.Layers.{stopped, owned, owned_by, layers_with, layers, layers_of}
use Rattle.picture.proofs.Laws.{row_bytes_cong}
use Rattle.background.proofs.Views.{effective_mark}
use Rattle.demands.specs.Layers.{OneOf}
use Rattle.demands.specs.Edges.{Uncut, on_row, x_byte, NothingCut, SameRow}

or_none : (b : Bool) → (b || false) ≡ b
or_none true = refl
or_none false = refl

-- ---- a sprite with no pixel on the row changes nothing
module _ (s : Stand) (code : ℕ → ℕ) (f : ℕ → Bool) (c : Canvas) (z : (k : ℕ) → solid s.start s.end code k ≡ false) where
  no_mark : (k : ℕ) → marked s code f c k ≡ false
  unfolding marked
  no_mark k = rw (z k)

  no_draw : (k : ℕ) → drawn s code f c k ≡ false
  unfolding drawn
  no_draw k = rw (no_mark k) (and-false s.seen)

  no_stop : (k : ℕ) → stopped s code f c k ≡ false
  unfolding stopped
  no_stop k = rw (z k)

  silent_colour : (x : ℕ) → (laid s code f c).colour x ≡ c.colour x
  unfolding laid
  silent_colour x = rw (no_draw (x - s.x), and-false (leb s.x x))

  silent_mask : (i : ℕ) → (laid s code f c).mask i ≡ c.mask i
  unfolding laid
  silent_mask i = rw (no_mark (past i s.mark)) (or_none (c.mask i))

  silent_hit : (laid s code f c).hit ≡ c.hit
  unfolding laid
  silent_hit = rw (any_none 8 (λ k. marked s code f c k && struck s code f c k) (λ k h. rw (no_mark k))) (or_none c.hit)

  silent_own : (n : ℕ) (own : ℕ → ℕ) (x : ℕ) → owned s code f c n own x ≡ own x
  unfolding owned
  silent_own n own x = rw (no_draw (x - s.x), no_stop (x - s.x)) (same_cond (leb s.x x) (own x))

-- pixels from the tile's end on are none
past_end : (start end : ℕ) (code : ℕ → ℕ) (k : ℕ) → end ≤ start + k → solid start end code k ≡ false
unfolding solid
past_end start end code k h = rw (le-ltb (start + k) end h)

-- ---- the stands, where an edge cuts nothing
-- at column x, with the mark there or at the X byte h
abbrev at_column : ℕ → ℕ → Stand
at_column x mark = record { seen = true; x = x; start = 0; end = min (160 - x) 8; prio = x; mark = mark }

-- right of the screen, where nothing shows
abbrev off_row : ℕ → ℕ → ℕ → Stand
off_row x end h = record { seen = false; x = x; start = 0; end = end; prio = x % 256; mark = h }

module _ (e h : ℕ) where
  edge_shown : 48 + e ≤ h → edge_stand 48 160 e h ≡ at_column (h - 48 - e) (h - 48 - e)
  unfolding edge_stand
  edge_shown l = let s : 48 + e - h ≡ 0 = omega arith in rw s

  visible_shown : 48 + e ≤ h → h < 208 → visible_stand e h ≡ at_column (h - 48 - e) h
  unfolding visible_stand visible_seen visible_end
  visible_shown l u =
      let a : 40 < h = omega arith in
      let b : h - 48 - e ≤ 160 = omega arith in
      let p : (h - 48 - e + 256 - (48 + e - h)) % 256 ≡ h - 48 - e = omega arith in
      let s : 48 + e - h ≡ 0 = omega arith in
      rw (lt-ltb 40 h a, lt-ltb h 208 u, le-ltb 160 (h - 48 - e) b, p, s)

  visible_off : 208 + e ≤ h → visible_stand e h ≡ off_row (h - 48 - e) (visible_end (h - 48 - e)) h
  unfolding visible_stand visible_seen
  visible_off l =
      let a : 40 < h = omega arith in
      let b : 208 ≤ h = omega arith in
      let p : (h - 48 - e + 256 - (48 + e - h)) % 256 ≡ (h - 48 - e) % 256 = omega arith in
      let s : h + (48 + e - h) ≡ h = omega arith in
      let t : 48 + e - h ≡ 0 = omega arith in
      rw (lt-ltb 40 h a, le-ltb h 208 b, p, s, t)

  edge_left : h ≤ 40 + e → (code : ℕ → ℕ) (k : ℕ) → solid (edge_stand 48 160 e h).start (edge_stand 48 160 e h).end code k ≡ false
  unfolding edge_stand
  edge_left l code k = past_end (48 + e - h) (min (160 - (h - 48 - e)) 8) code k (omega arith)

  edge_right : 208 + e ≤ h → (code : ℕ → ℕ) (k : ℕ) → solid (edge_stand 48 160 e h).start (edge_stand 48 160 e h).end code k ≡ false
  unfolding edge_stand
  edge_right l code k = past_end (48 + e - h) (min (160 - (h - 48 - e)) 8) code k (omega arith)

end_low : (x : ℕ) → visible_end x ≤ 8
unfolding visible_end
end_low x = either (λ (n : ℕ). n ≤ 8) (ltb 160 x) (λ _. omega arith) (λ _. omega arith)

visible_left : (e h : ℕ) → h ≤ 40 + e → (code : ℕ → ℕ) (k : ℕ) → solid (visible_stand e h).start (visible_stand e h).end code k ≡ false
unfolding visible_stand
visible_left e h l code k = let d = end_low (h - 48 - e) in past_end (48 + e - h) (visible_end (h - 48 - e)) code k (omega (arith, d))

-- and one that the right edge leaves no pixel of
last_end : visible_end 160 ≡ 0
unfolding visible_end
last_end = refl

visible_last : (e h : ℕ) → 208 + e ≤ h → h ≤ 208 + e → (code : ℕ → ℕ) (k : ℕ) → solid (visible_stand e h).start (visible_stand e h).end code k ≡ false
visible_last e h l u code k =
    let x : h - 48 - e ≡ 160 = omega arith in
    rw (visible_off e h l, x, last_end) (past_end 0 0 code k (omega arith))

-- ---- both canvases, with true edges and without
pub record Beside (e : ℕ) (c d : Canvas) (L M : ℕ → ℕ) : Type 0 where
  pub colour : (x : ℕ) → c.colour x ≡ d.colour x
  pub mask : (i : ℕ) → i < 160 → c.mask i ≡ d.mask (i + (48 + e))
  pub layer : (x : ℕ) → L x ≡ M x

module _ (e : ℕ) (small : e ≤ 8) (code : ℕ → ℕ) (f f' : ℕ → Bool) (same : (i : ℕ) → f i ≡ f' i) (c d : Canvas) (L M : ℕ → ℕ) (b : Beside e c d L M)
    (n : ℕ) where
  -- a sprite at a column of the screen
  module _ (x : ℕ) (l : x < 160) where
    abbrev s : Stand
    s = at_column x x

    abbrev t : Stand
    t = at_column x (x + (48 + e))

    held_both : (k : ℕ) → held_back s code f c k ≡ held_back t code f' d k
    unfolding held_back
    held_both k = same ((x + k) % 256)

    marked_both : (k : ℕ) → marked s code f c k ≡ marked t code f' d k
    unfolding marked
    marked_both k = ap (λ (z : Bool). solid 0 (min (160 - x) 8) code k && not z) (held_both k)

    -- a marked column is one of the row
    on_row_lem : (k : ℕ) → marked s code f c k ≡ true → x + k < 160
    unfolding marked solid
    on_row_lem k q =
        let o = (both (ltb (0 + k) (min (160 - x) 8) && not (eqb (code (0 + k)) 0)) (not (held_back s code f c k)) q).0 in
        let r = ltb-true (0 + k) (min (160 - x) 8) (both (ltb (0 + k) (min (160 - x) 8)) (not (eqb (code (0 + k)) 0)) o).0 in
        omega (arith, r)

    struck_both : (k : ℕ) → x + k < 160 → struck s code f c k ≡ struck t code f' d k
    unfolding struck
    struck_both k h =
        let p : (x + k) % 256 ≡ x + k = omega arith in
        let q : (x + (48 + e) + k) % 256 ≡ x + k + (48 + e) = omega arith in
        ap (λ (i : ℕ). c.mask i) p ∙ b.mask (x + k) h ∙ ap (λ (i : ℕ). d.mask i) (sym q)

    -- so whatever is asked of a column together with its mark is the same
    met_both : (g : Bool → Bool) (k : ℕ) → (marked s code f c k && g (struck s code f c k)) ≡ (marked t code f' d k && g (struck t code f' d k))
    met_both g k =
        split (marked s code f c k)
        (λ q. rw (q, sym (marked_both k) ∙ q) (ap g (struck_both k (on_row_lem k q))))
        (λ q. rw (q, sym (marked_both k) ∙ q))

    drawn_both : (k : ℕ) → drawn s code f c k ≡ drawn t code f' d k
    unfolding drawn
    drawn_both k = met_both not k

    stopped_both : (k : ℕ) → stopped s code f c k ≡ stopped t code f' d k
    unfolding stopped
    stopped_both k = ap (λ (z : Bool). solid 0 (min (160 - x) 8) code k && z) (held_both k)

    shown_both : Beside e (laid s code f c) (laid t code f' d) (owned s code f c n L) (owned t code f' d n M)
    unfolding laid owned
    shown_both =
        record {
          colour = λ p. rw (drawn_both (p - x), b.colour p);
          mask = λ i h.
              let q : past (i + (48 + e)) (x + (48 + e)) ≡ past i x = omega arith in
              rw (q, b.mask i h, marked_both (past i x));
          layer = λ p. rw (drawn_both (p - x), stopped_both (p - x), b.layer p);
        }

    hit_both : c.hit ≡ d.hit → (laid s code f c).hit ≡ (laid t code f' d).hit
    unfolding laid
    hit_both q =
        ap (λ (z : Bool). z || any 8 (λ k. marked s code f c k && struck s code f c k)) q
        ∙ ap (λ (z : Bool). d.hit || z)
        (any_cong 8 (λ k. marked s code f c k && struck s code f c k) (λ k. marked t code f' d k && struck t code f' d k)
        (λ k _. met_both (λ z. z) k))

  -- one that has no pixel on the screen by either stand
  none_both : (s t : Stand) → ((k : ℕ) → solid s.start s.end code k ≡ false) → ((k : ℕ) → solid t.start t.end code k ≡ false)
      → Beside e (laid s code f c) (laid t code f' d) (owned s code f c n L) (owned t code f' d n M)
  none_both s t y z =
      record {
        colour = λ x. silent_colour s code f c y x ∙ b.colour x ∙ sym (silent_colour t code f' d z x);
        mask = λ i h. silent_mask s code f c y i ∙ b.mask i h ∙ sym (silent_mask t code f' d z (i + (48 + e)));
        layer = λ x. silent_own s code f c y n L x ∙ b.layer x ∙ sym (silent_own t code f' d z n M x);
      }

  -- one right of the screen: by the visible stand it marks, and no column of the screen
  module _ (s : Stand) (y : (k : ℕ) → solid s.start s.end code k ≡ false) (x end h : ℕ) (low : end ≤ 8) (far : 208 + e ≤ h) (byte : h < 256)
    where
      abbrev o : Stand
      o = off_row x end h

      off_mark : (i : ℕ) → i < 160 → marked o code f' d (past (i + (48 + e)) h) ≡ false
      unfolding marked
      off_mark i l =
          let k : 8 ≤ past (i + (48 + e)) h = omega arith in
          rw (past_end 0 end code (past (i + (48 + e)) h) (omega arith))

      off_both : Beside e (laid s code f c) (laid o code f' d) (owned s code f c n L) (owned o code f' d n M)
      unfolding laid owned drawn stopped held_back
      off_both =
          record {
            colour = λ p. silent_colour s code f c y p ∙ b.colour p ∙ rw (and-false (leb x p));
            mask = λ i l. silent_mask s code f c y i ∙ b.mask i l ∙ sym (rw (off_mark i l) (or_none (d.mask (i + (48 + e)))));
            layer = λ p. silent_own s code f c y n L p ∙ b.layer p ∙ sym (rw (and-false (solid 0 end code (p - x))) (same_cond (leb x p) (M p)));
          }

  -- any sprite that no edge cuts
  module _ (h : ℕ) (u : Uncut e h) where
    uncut_both : Beside e (laid (edge_stand 48 160 e h) code f c) (laid (visible_stand e h) code f' d) (owned (edge_stand 48 160 e h) code f c n L)
        (owned (visible_stand e h) code f' d n M)
    uncut_both =
        ⊎_elim
        (λ l. none_both (edge_stand 48 160 e h) (visible_stand e h) (edge_left e h l code) (visible_left e h l code))
        (⊎_elim
        (λ w.
        let r : h - 48 - e + (48 + e) ≡ h = omega arith in
        rw (edge_shown e h w.0, visible_shown e h w.0 w.1) (rw r at (shown_both (h - 48 - e) (omega arith))))
        (λ w. rw (visible_off e h w.0) (off_both (edge_stand 48 160 e h) (edge_right e h w.0 code) (h - 48 - e) (visible_end (h - 48 - e)) h
        (end_low (h - 48 - e)) w.0 w.1)))
        u

    uncut_hit : c.hit ≡ d.hit → h ≤ 208 + e → (laid (edge_stand 48 160 e h) code f c).hit ≡ (laid (visible_stand e h) code f' d).hit
    uncut_hit q m =
        ⊎_elim
        (λ l. silent_hit (edge_stand 48 160 e h) code f c (edge_left e h l code) ∙ q ∙ sym
        (silent_hit (visible_stand e h) code f' d (visible_left e h l code)))
        (⊎_elim
        (λ w.
        let r : h - 48 - e + (48 + e) ≡ h = omega arith in
        rw (edge_shown e h w.0, visible_shown e h w.0 w.1) (rw r at (hit_both (h - 48 - e) (omega arith) q)))
        (λ w. silent_hit (edge_stand 48 160 e h) code f c (edge_right e h w.0 code) ∙ q ∙ sym
        (silent_hit (visible_stand e h) code f' d (visible_last e h w.0 m code))))
        u

no_hit : (p q : ℕ → ℕ) → (bare p).hit ≡ (bare q).hit
unfolding bare
no_hit p q = refl

early_le : (g : ℕ → ℕ) → early g ≤ 8
early_le g = either (λ (n : ℕ). n ≤ 8) (bit (g 0) 3) (λ _. omega arith) (λ _. omega arith)

-- ---- the list
module _ (m g : ℕ → ℕ) (l : ℕ) (f f' : ℕ → Bool) (same : (i : ℕ) → f i ≡ f' i) where
  abbrev X : ℕ → ℕ
  X n = m (table_at g + 128 + 2 * n)

  list_both : (ns : List ℕ) → ((n : ℕ) → OneOf ns n → Uncut (early g) (X n)) → (c d : Canvas) (L M : ℕ → ℕ) → Beside (early g) c d L M
      → Beside (early g) (with_sprites m g (edge_stand 48 160 (early g)) l f ns c) (with_sprites m g (visible_stand (early g)) l f' ns d)
      (layers_with m g (edge_stand 48 160 (early g)) l f ns c L) (layers_with m g (visible_stand (early g)) l f' ns d M)
  unfolding with_sprites with_sprite layers_with owned_by
  list_both [] u c d L M b = b
  list_both (n ∷ ns) u c d L M b =
      list_both ns (λ k o. u k (inr o)) _ _ _ _ (uncut_both (early g) (early_le g) (sprite_code m g l n) f f' same c d L M b n (X n) (u n (inl refl)))

  list_hit : (ns : List ℕ) → ((n : ℕ) → OneOf ns n → Uncut (early g) (X n)) → ((n : ℕ) → OneOf ns n → X n ≤ 208 + early g) → (c d : Canvas)
      (L M : ℕ → ℕ) → Beside (early g) c d L M → c.hit ≡ d.hit
      → (with_sprites m g (edge_stand 48 160 (early g)) l f ns c).hit ≡ (with_sprites m g (visible_stand (early g)) l f' ns d).hit
  unfolding with_sprites with_sprite
  list_hit [] u w c d L M b q = q
  list_hit (n ∷ ns) u w c d L M b q =
      let one = sprite_code m g l n in
      list_hit ns (λ k o. u k (inr o)) (λ k o. w k (inr o)) _ _ _ _
      (uncut_both (early g) (early_le g) one f f' same c d L M b n (X n) (u n (inl refl)))
      (uncut_hit (early g) (early_le g) one f f' same c d L M b n (X n) (u n (inl refl)) q (w n (inl refl)))

-- ---- the row
module _ (reg vram : List ℕ) (scroll y : ℕ) (w : NothingCut reg vram scroll y) where
  abbrev m : ℕ → ℕ
  m = at vram

  abbrev g : ℕ → ℕ
  g = at reg

  front_both : (i : ℕ) → front m g (true_edges g scroll y) i ≡ front m g (visible g scroll y) i
  unfolding front true_edges visible
  front_both i =
      let z : (304 - g 8) % 256 % 8 ≡ 0 = omega (arith, w.tiles) in
      any_cong 160 _ _ (λ x l. rw (z, ← effective_mark x (omega arith)))

  bare_both : Beside (early g) (bare (back m g (true_edges g scroll y))) (bare (back m g (visible g scroll y))) (λ x. 0) (λ x. 0)
  unfolding bare back true_edges visible
  bare_both = record { colour = λ x. refl; mask = λ i l. refl; layer = λ x. refl }

  row_both : Beside (early g)
      (with_sprites m g (edge_stand 48 160 (early g)) (y + 24) (front m g (true_edges g scroll y)) (on_row reg vram scroll y)
      (bare (back m g (true_edges g scroll y))))
      (with_sprites m g (visible_stand (early g)) (y + 24) (front m g (visible g scroll y)) (on_row reg vram scroll y)
      (bare (back m g (visible g scroll y))))
      (layers_with m g (edge_stand 48 160 (early g)) (y + 24) (front m g (true_edges g scroll y)) (on_row reg vram scroll y)
      (bare (back m g (true_edges g scroll y))) (λ x. 0))
      (layers_with m g (visible_stand (early g)) (y + 24) (front m g (visible g scroll y)) (on_row reg vram scroll y)
      (bare (back m g (visible g scroll y))) (λ x. 0))
  row_both = list_both m g (y + 24) _ _ front_both (on_row reg vram scroll y) w.sprites _ _ _ _ bare_both

  colour_both : (x : ℕ) → (picture_of TrueEdges reg scroll vram y).colour x ≡ (picture_of VisibleOnly reg scroll vram y).colour x
  unfolding picture_of picture true_edges visible
  colour_both x = row_both.colour x

  layer_both : (x : ℕ) → layers_of TrueEdges reg scroll vram y x ≡ layers_of VisibleOnly reg scroll vram y x
  unfolding layers_of layers true_edges visible
  layer_both x = row_both.layer x

  ninth_both : (picture_of TrueEdges reg scroll vram y).ninth ≡ (picture_of VisibleOnly reg scroll vram y).ninth
  unfolding picture_of picture true_edges visible
  ninth_both = refl

  met_same : ((n : ℕ) → OneOf (on_row reg vram scroll y) n → x_byte reg vram scroll y n ≤ 208 + early g) → (picture_of TrueEdges reg scroll vram y).hit ≡
      (picture_of VisibleOnly reg scroll vram y).hit
  unfolding picture_of picture true_edges visible
  met_same q = list_hit m g (y + 24) _ _ front_both (on_row reg vram scroll y) w.sprites q _ _ _ _ bare_both
      (no_hit (back m g (true_edges g scroll y)) (back m g (visible g scroll y)))

  -- R18.3: areas 0 and 2 give the same row
  pub same_row : SameRow reg vram scroll y
  same_row =
      record {
        bytes = λ colours. row_bytes_cong colours colours 160 _ _ (λ x l. ap (at colours) (colour_both x));
        layer = layer_both;
        ninth = ninth_both;
        hit = met_same;
      }
