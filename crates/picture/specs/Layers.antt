-- R15.1, R15.2, over any view: `layers m g v x` is the layer that owns column x of a row, beside its colour and from the same tests. R20.6: what the fill
-- covers is the fill's.
-- Assumes nothing.
use Rattle.std.specs.Prelude.{Bool, cond, ◌&&◌, List, [], ◌∷◌, ◌++◌, ℕ, ◌+◌, ◌-◌, ◌*◌, eqb, leb, length, take, drop}
use Rattle.laws.specs.Lists.{at}
use Rattle.laws.specs.Table.{table}
use Rattle.picture.specs.View.{View}
use Rattle.picture.specs.Picture.{Canvas, back, front, table_at, listed, solid, held_back, drawn, sprite_code, with_sprite, bare}
use Rattle.picture.specs.Screen.{view_of, covered}
use Rattle.picture.specs.declared.Stand.{Stand}
use Rattle.picture.specs.declared.Screen.{Screen}

-- R15.1: the layer of a column whose layer was `own`, where sprite n's pixel is drawn, or is held back, or neither: 0 the background, 1 the background in
-- front of a sprite, 64 + n sprite n
abbrev pub owner : ℕ → Bool → Bool → ℕ → ℕ
owner n drawn held own = cond drawn (64 + n) (cond (held && eqb own 0) 1 own)

-- A sprite that stands at s and whose tile line has the codes `code`, laid on the canvas c, with the priority mask `prio`.
module _ (s : Stand) (code : ℕ → ℕ) (prio : ℕ → Bool) (c : Canvas) where
  -- R15.2: column k is held back: it has a pixel whose code is not 0, and priority holds it, whatever the sprite mask has
  unfoldable pub stopped : ℕ → Bool
  stopped k = solid s.start s.end code k && held_back s code prio c k

  -- the layers `own` with sprite n over them, column k at x + k, where it shows or would have shown
  unfoldable pub owned : ℕ → (ℕ → ℕ) → ℕ → ℕ
  owned n own x = cond (leb s.x x) (owner n (drawn s code prio c (x - s.x)) (stopped (x - s.x)) (own x)) (own x)

-- the layers with each of a list of sprites, laid in turn from the canvas c on, as `with_sprites` lays them
module _ (m g : ℕ → ℕ) (stand : ℕ → Stand) (l : ℕ) (prio : ℕ → Bool) where
  unfoldable pub owned_by : ℕ → Canvas → (ℕ → ℕ) → ℕ → ℕ
  owned_by n c own = owned (stand (m (table_at g + 128 + 2 * n))) (sprite_code m g l n) prio c n own

  unfoldable pub layers_with : List ℕ → Canvas → (ℕ → ℕ) → ℕ → ℕ
  layers_with [] c own = own
  layers_with (n ∷ ns) c own = layers_with ns (with_sprite m g stand l prio n c) (owned_by n c own)

-- the layers of a row: all of it is background's, and then come the sprites that the picture lays
unfoldable pub layers : (ℕ → ℕ) → (ℕ → ℕ) → View → ℕ → ℕ
layers m g v = layers_with m g v.stand v.line (front m g v) (take 8 (listed m g v.line 64 0)) (bare (back m g v)) (λ x. 0)

-- the layers `own` of a finished row, on a screen: 2 where a fill covers the column, whatever stands under it
abbrev pub covered_on : Screen → (ℕ → ℕ) → (ℕ → ℕ) → ℕ → ℕ
covered_on s g own = λ x. cond (covered s g x) 2 (own x)

-- the layers of row y of a screen, by the registers, the latched scroll and video memory
unfoldable pub layers_of : Screen → List ℕ → ℕ → List ℕ → ℕ → ℕ → ℕ
layers_of s reg scroll vram y = covered_on s (at reg) (layers (at vram) (at reg) (view_of s (at reg) scroll y))

-- R15.3: a layer buffer with the layers of a row's columns in its first bytes, one a column, and behind them what was there. A buffer with fewer bytes than
-- columns asks for no layers, and stays
unfoldable pub layers_in : List ℕ → ℕ → (ℕ → ℕ) → List ℕ
layers_in buffer width layer = cond (leb width (length buffer)) (table width layer ++ drop width buffer) buffer
