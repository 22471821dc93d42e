-- The list of sprites on a line, one at a time.
-- Assumes nothing.
use Rattle.std.proofs.Common.{◌≡◌, ℕ, suc, ◌+◌, ◌-◌, ◌*◌, ◌/◌, ◌%◌, ◌^◌, ◌<◌, ◌≤◌, Bool, true, false, cond, ◌&&◌, eqb, ltb, leb, ◌≢◌, List, [], ◌∷◌, length}
use Rattle.std.proofs.Common.{take, set, sym, refl, ap, ◌∙◌, subst, add-one, arith, get_or-set_other, le-ltb, lt-ltb, le-leb}
use native.Mathlib.Decide.{dec_lt}
use lib.Dec.{leb-suc-suc}
use lib.Bits.{bit_or}
use lib.Seq.{take-nil}
use borrow.Author.Tests.{lt-leb}
use Rattle.laws.specs.Bits.{byte_of}
use Rattle.laws.specs.Lists.{at}
use Rattle.laws.specs.Paint.{painted}
use Rattle.laws.proofs.Bits.{number_lt}
use Rattle.bitmap.specs.Mask.{bytes_of, byte_at, with_byte, cleared}
use Rattle.bitmap.proofs.Circle.{read_is, mark_is}
use Rattle.picture.specs.declared.Stand.{Stand}
use Rattle.picture.specs.declared.Screen.{Screen}
use Rattle.picture.specs.Tile.{code_at}
use Rattle.picture.specs.View.{early}
use Rattle.picture.specs.Layers.{owned, owned_by, layers_with, layers_in}
use Rattle.picture.specs.Picture.{Canvas, solid, laid, table_at, top_of, tall, on_line, listed, sprite_line, sprite_code, with_sprite, with_sprites, bare}
use Rattle.tile.specs.Line.{line_marked}
use Rattle.stand.specs.Stand.{stand_of}
use Rattle.sprites.specs.declared.Marks.{Marks}
use Rattle.sprites.specs.declared.Next.{Next}
use Rattle.sprites.specs.declared.Turn.{Turn}
use Rattle.sprites.specs.Sprites.{Laid, Turned, bits_of, line_of, eight_of}
use Rattle.sprites.proofs.Laws.{Shows, shows-laid, owns-laid}

-- the sprite that the code lays is sprite n
pub with_sprite_is : (vram reg : List ℕ) (screen : Screen) (line n d : ℕ) (f : ℕ → Bool) (c : Canvas) {s : Stand} {e table addr : ℕ} → table ≡
    table_at (at reg)
    → e ≡ early (at reg) → s ≡ stand_of screen e (at vram (table + 128 + 2 * n)) → d ≡ line - top_of (at vram) (at reg) n
    → addr ≡ sprite_line (at reg) (at vram (table + 128 + 2 * n + 1)) d → laid s (code_at (at vram) addr) f c ≡ with_sprite (at vram) (at reg)
    (stand_of screen (early (at reg))) line f n c
unfolding with_sprite sprite_code
with_sprite_is vram reg screen line n d f c te ee se de ae = rw (se, ae, de, ee, te)

owned_is : (vram reg : List ℕ) (screen : Screen) (line n d : ℕ) (f : ℕ → Bool) (c : Canvas) (own : ℕ → ℕ) {s : Stand} {e table addr : ℕ} → table
    ≡ table_at (at reg)
    → e ≡ early (at reg) → s ≡ stand_of screen e (at vram (table + 128 + 2 * n)) → d ≡ line - top_of (at vram) (at reg) n
    → addr ≡ sprite_line (at reg) (at vram (table + 128 + 2 * n + 1)) d
    → owned s (code_at (at vram) addr) f c n own ≡ owned_by (at vram) (at reg) (stand_of screen (early (at reg))) line f n c own
unfolding owned_by sprite_code
owned_is vram reg screen line n d f c own te ee se de ae = rw (se, ae, de, ee, te)

-- ---- the list from sprite n on
module _ (m g : ℕ → ℕ) (l n : ℕ) (low : n < 64) where
  next : listed m g l (64 - n) n
      ≡ cond (eqb (m (table_at g + n)) 0xD0) [] (cond (on_line m g l n) (n ∷ listed m g l (64 - (n + 1)) (n + 1)) (listed m g l (64 - (n + 1)) (n + 1)))
  unfolding listed
  next =
      let e : 64 - n ≡ suc (64 - (n + 1)) = omega arith in
      rw (e, add-one)

  pub list_ends : eqb (m (table_at g + n)) 0xD0 ≡ true → listed m g l (64 - n) n ≡ []
  list_ends e = next ∙ rw e

  pub list_skips : eqb (m (table_at g + n)) 0xD0 ≡ false → on_line m g l n ≡ false → listed m g l (64 - n) n ≡ listed m g l (64 - (n + 1)) (n + 1)
  list_skips e o = next ∙ rw (e, o)

  pub list_has : eqb (m (table_at g + n)) 0xD0 ≡ false → on_line m g l n ≡ true → listed m g l (64 - n) n ≡ n ∷ listed m g l (64 - (n + 1)) (n + 1)
  list_has e o = next ∙ rw (e, o)

-- ---- on the way: what is left of the list, laid on a canvas and its layers of which S says that the code's values show them, gives what the whole list gives
pub record Going (m g : ℕ → ℕ) (stand : ℕ → Stand) (l : ℕ) (f : ℕ → Bool) (colour : ℕ → ℕ) (n count : ℕ) (S : Canvas → (ℕ → ℕ) → Type 0) : Type 0
  where
    pub canvas : Canvas
    pub layer : ℕ → ℕ
    pub shows : S canvas layer
    pub rest : with_sprites m g stand l f (take (8 - count) (listed m g l (64 - n) n)) canvas ≡ with_sprites m g stand l f (take 8 (listed m g l 64 0))
        (bare colour)
    pub owners : layers_with m g stand l f (take (8 - count) (listed m g l (64 - n) n)) canvas layer ≡ layers_with m g stand l f
        (take 8 (listed m g l 64 0)) (bare colour) (λ x. 0)
    pub many : ltb (8 - count) (length (listed m g l (64 - n) n)) ≡ ltb 8 (length (listed m g l 64 0))

-- the whole list, laid: S holds of what it gives
pub record Done (m g : ℕ → ℕ) (stand : ℕ → Stand) (l : ℕ) (f : ℕ → Bool) (colour : ℕ → ℕ) (ninth : Bool) (S : Canvas → (ℕ → ℕ) → Type 0) : Type 0
  where
    pub shows : S (with_sprites m g stand l f (take 8 (listed m g l 64 0)) (bare colour))
        (layers_with m g stand l f (take 8 (listed m g l 64 0)) (bare colour) (λ x. 0))
    pub many : ninth ≡ ltb 8 (length (listed m g l 64 0))

both_by : (S : Canvas → (ℕ → ℕ) → Type 0) {c c' : Canvas} {o o' : ℕ → ℕ} → c ≡ c' → o ≡ o' → S c o → S c' o'
both_by S {c'} {o} p q s = subst (λ (w : ℕ → ℕ). S c' w) q (subst (λ (k : Canvas). S k o) p s)

module _ (m g : ℕ → ℕ) (stand : ℕ → Stand) (l : ℕ) (f : ℕ → Bool) (colour : ℕ → ℕ) where
  pub going_starts : (S : Canvas → (ℕ → ℕ) → Type 0) → S (bare colour) (λ x. 0) → Going m g stand l f colour 0 0 S
  going_starts S s = record { canvas = bare colour; layer = λ x. 0; shows = s; rest = refl; owners = refl; many = refl }

  pub going_skips : {n count : ℕ} {S : Canvas → (ℕ → ℕ) → Type 0} → listed m g l (64 - n) n ≡ listed m g l (64 - (n + 1)) (n + 1)
      → Going m g stand l f colour n count S → Going m g stand l f colour (n + 1) count S
  going_skips e o = record {
    canvas = o.canvas;
    layer = o.layer;
    shows = o.shows;
    rest = rw e at o.rest;
    owners = rw e at o.owners;
    many = rw e at o.many;
  }

  pub going_on : {n p count count' : ℕ} {S : Canvas → (ℕ → ℕ) → Type 0} (S' : Canvas → (ℕ → ℕ) → Type 0) → listed m g l (64 - n) n ≡ p ∷ listed m g l
      (64 - (p + 1)) (p + 1) → count < 8
      → count' ≡ count + 1 → (o : Going m g stand l f colour n count S) → S' (with_sprite m g stand l f p o.canvas)
      (owned_by m g stand l f p o.canvas o.layer)
      → Going m g stand l f colour (p + 1) count' S'
  unfolding with_sprites layers_with
  going_on {n} {p} {count} {count'} S' e h q o s =
      let k : 8 - count ≡ suc (8 - count') = omega arith in
      record {
        canvas = with_sprite m g stand l f p o.canvas;
        layer = owned_by m g stand l f p o.canvas o.layer;
        shows = s;
        rest = rw (e, k) at o.rest;
        owners = rw (e, k) at o.owners;
        many = sym (leb-suc-suc (suc (8 - count')) (length (listed m g l (64 - (p + 1)) (p + 1)))) ∙ (rw (e, k) at o.many);
      }

  pub going_ends : {n count : ℕ} (S : Canvas → (ℕ → ℕ) → Type 0) → listed m g l (64 - n) n ≡ [] → Going m g stand l f colour n count S → Done m g
      stand l f colour false S
  unfolding with_sprites layers_with
  going_ends {n} {count} S e o =
      let z : 0 ≤ 8 - count = omega arith in
      record {
        shows = both_by S (rw (e, take-nil (8 - count)) at o.rest) (rw (e, take-nil (8 - count)) at o.owners) o.shows;
        many = sym (le-ltb (8 - count) 0 z) ∙ (rw e at o.many);
      }

  pub going_full : {n p count : ℕ} (S : Canvas → (ℕ → ℕ) → Type 0) → listed m g l (64 - n) n ≡ p ∷ listed m g l (64 - (p + 1)) (p + 1) → count ≡ 8
      → Going m g stand l f colour n count S → Done m g stand l f colour true S
  unfolding with_sprites layers_with
  going_full {n} {p} {count} S e h o =
      let k : 8 - count ≡ 0 = omega arith in
      let z : 0 < suc (length (listed m g l (64 - (p + 1)) (p + 1))) = omega arith in
      record {
        shows = both_by S (rw k at o.rest) (rw k at o.owners) o.shows;
        many = sym (lt-ltb 0 (suc (length (listed m g l (64 - (p + 1)) (p + 1)))) z) ∙ (rw (e, k) at o.many);
      }

pub list_done : (m g : ℕ → ℕ) (l n : ℕ) → 64 ≤ n → listed m g l (64 - n) n ≡ []
unfolding listed
list_done m g l n e = let z : 64 - n ≡ 0 = omega arith in rw z

-- ---- what the code's tests say of sprite n, whose Y byte is y
module _ (m g : ℕ → ℕ) (l n : ℕ) {table y : ℕ} (te : table ≡ table_at g) (ye : y ≡ m (table + n)) where
  pub byte_of_lem : {b : Bool} → eqb y 0xD0 ≡ b → eqb (m (table_at g + n)) 0xD0 ≡ b
  byte_of_lem e = rw (ye, te) at e

  module _ (top lines d : ℕ) (pe : top ≡ (y + 1) % 256) (le : lines ≡ cond (tall g) 16 8) (wr : (d + top) % 2 ^ 64 ≡ l) where
    top_is : top ≡ top_of m g n
    unfolding top_of
    top_is = pe ∙ rw (ye, te)

    on_line_of : {b : Bool} → (leb top l && ltb l (top + lines)) ≡ b → on_line m g l n ≡ b
    unfolding on_line
    on_line_of e = rw (← top_is, ← le) e

    pub on_line_lem : lines ≤ 16 → d < lines → on_line m g l n ≡ true
    on_line_lem low h =
        let a : top ≤ l = omega arith in
        let b : l < top + lines = omega arith in
        on_line_of (rw (le-leb top l a) (lt-ltb l (top + lines) b))

    pub below_top : lines ≤ 16 → d < lines → d ≡ l - top_of m g n
    below_top low h = let e : d ≡ l - top = omega arith in e ∙ ap (λ (k : ℕ). l - k) top_is

    pub off_line : lines ≤ 16 → lines ≤ d → d < 2 ^ 64 → on_line m g l n ≡ false
    off_line low h fits =
        on_line_of
        (elim (dec_lt l top) [
          | yes a ↦ rw (lt-leb top l a)
          | no a ↦
              let b : top ≤ l = omega arith in
              let k : top + lines ≤ l = omega arith in
              rw (le-leb top l b) (le-ltb l (top + lines) k)
        ])

-- ---- a row of bytes and its layers
-- what the code's values show of a canvas and its layers
pub record Told (row₀ layers₀ colours : List ℕ) (width : ℕ) (row marks layers : List ℕ) (met : Bool) (c : Canvas) (own : ℕ → ℕ) : Type 0 where
  pub canvas : Shows row₀ colours width c row marks met
  pub owners : layers ≡ layers_in layers₀ width own

module _ (m g : ℕ → ℕ) (stand : ℕ → Stand) (l : ℕ) (f : ℕ → Bool) (colour : ℕ → ℕ) (row₀ layers₀ colours : List ℕ) (width : ℕ) where
  pub row_starts : {row marks layers : List ℕ} {met : Bool} → row ≡ painted row₀ 0 width (λ x. at colours (colour x)) → layers ≡ layers_in layers₀
      width (λ x. 0) → marks ≡ cleared
      → met ≡ false → Going m g stand l f colour 0 0 (Told row₀ layers₀ colours width row marks layers met)
  unfolding bare cleared
  row_starts {row} {marks} {layers} {met} b o k h =
      going_starts m g stand l f colour (Told row₀ layers₀ colours width row marks layers met)
      (record { canvas = record { bytes = b; mask = k; hit = h }; owners = o })

  pub finished : {row layers : List ℕ} {r : Marks} → Done m g stand l f colour r.ninth
      (Told row₀ layers₀ colours width row r.mask.bits layers r.hit)
      → Laid m g stand l f row₀ colours width colour row r layers₀ layers
  finished d =
      record {
        line = record { bytes = d.shows.canvas.bytes; struck = d.shows.canvas.hit; many = d.many; owners = d.shows.owners };
        marks = d.shows.canvas.mask;
      }

-- ---- a turn
bits_small : (vram : List ℕ) (addr : ℕ) (s : Stand) (held : ℕ) → bits_of vram addr s held < 256
unfolding byte_of
bits_small vram addr s held = by-seen s.seen
  where
    by-seen : (b : Bool) → cond b (byte_of (line_marked vram addr s.start s.end held)) (byte_of (solid s.start s.end (code_at (at vram) addr))) < 256
    by-seen true = number_lt 8 _
    by-seen false = number_lt 8 _

-- eight bits of a mask, and a mask with eight marked, by the two bytes that they are in
module _ {m : List ℕ} (f : ℕ → Bool) (place : ℕ) (e : m ≡ bytes_of f) where
  eight_are : eight_of (at m (place % 256 / 8)) (at m ((place % 256 / 8 + 1) % 32)) place ≡ byte_at m place
  eight_are = let q : place % 8 ≡ place % 256 % 8 = omega arith in rw q (read_is f place e)

  eight_laid : {low high : ℕ} (v : ℕ) → v < 256 → low ≡ bit_or (at m (place % 256 / 8)) (v * 2 ^ (place % 8) % 256)
      → high ≡ bit_or (at m ((place % 256 / 8 + 1) % 32)) (v / 2 / 2 ^ (8 - place % 8 - 1))
      → set (set m (place % 256 / 8) low) ((place % 256 / 8 + 1) % 32) high ≡ with_byte m place v
  eight_laid {low} {high} v small le he =
      let q : place % 8 ≡ place % 256 % 8 = omega arith in
      let o : (place % 256 / 8 + 1) % 32 ≢ place % 256 / 8 = λ z. omega arith in
      let h : high ≡ bit_or (at (set m (place % 256 / 8) low) ((place % 256 / 8 + 1) % 32)) (v / 2 / 2 ^ (8 - place % 8 - 1)) = he ∙ sym
      (rw (get_or-set_other m (place % 256 / 8) ((place % 256 / 8 + 1) % 32) low 0 o)) in
      rw (h, le, q) (mark_is f place v e small)

-- the row, its layers and the marks with sprite `next` show it laid on what they showed
pub told_on :
    (vram reg : List ℕ) (screen : Screen) (line : ℕ) (f : ℕ → Bool) (next : Next) (count : ℕ) {row₀ layers₀ colours prio row marks layers row' layers' : List ℕ}
    {width e table : ℕ} {met : Bool} {c : Canvas} {own : ℕ → ℕ} {s : Stand} {r : Turn} → table ≡ table_at (at reg) → e ≡ early (at reg)
    → s ≡ stand_of screen e (at vram (table + 128 + 2 * next.n)) → s.end ≤ 8 → next.d ≡ line - top_of (at vram) (at reg) next.n
    → width * 4 ≤ length row → prio ≡ bytes_of f → Told row₀ layers₀ colours width row marks layers met c own
    → Turned row layers vram colours (line_of vram (at reg) table next)
    (eight_of (at prio (s.prio % 256 / 8)) (at prio ((s.prio % 256 / 8 + 1) % 32)) s.prio)
    (eight_of (at marks (s.mark % 256 / 8)) (at marks ((s.mark % 256 / 8 + 1) % 32)) s.mark) width next.n s (at marks (s.mark % 256 / 8))
    (at marks ((s.mark % 256 / 8 + 1) % 32)) met count r row' layers'
    → Told row₀ layers₀ colours width row' (set (set marks (s.mark % 256 / 8) r.low) ((s.mark % 256 / 8 + 1) % 32) r.high) layers'
    r.hit (with_sprite (at vram) (at reg) (stand_of screen (early (at reg))) line f next.n c)
    (owned_by (at vram) (at reg) (stand_of screen (early (at reg))) line f next.n c own)
told_on vram reg screen line f next count {row₀} {layers₀} {colours} {width} {table} {c} {own} {s} te ee se low de room pe t r =
    let addr = line_of vram (at reg) table next in
    let held = eight_are f s.prio pe in
    let taken = eight_are c.mask s.mark t.canvas.mask in
    let small = bits_small vram addr s _ in
    record {
      canvas =
          rw (← with_sprite_is vram reg screen line next.n next.d f c te ee se de refl)
          (shows-laid s vram addr f c low width colours row₀ room pe t.canvas held taken small r.bytes refl
          r.met (eight_laid c.mask s.mark t.canvas.mask _ small r.lower r.upper));
      owners =
          rw (← owned_is vram reg screen line next.n next.d f c own te ee se de refl)
          (owns-laid s vram addr f c low width next.n layers₀ own pe t.canvas t.owners held taken r.owners);
    }
