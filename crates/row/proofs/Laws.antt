-- What the code of a row draws is the picture of its view, and what a drawn row leaves.
-- Assumes nothing.
use mathlib.Core.Path.{◌≡◌, refl, ap, ◌∙◌}
use mathlib.Core.List.{List, ◌++◌}
use mathlib.Core.Bool.{Bool, false, cond}
use Prim.Native.Nat.{ℕ, ◌+◌, ◌-◌, ◌*◌, ◌%◌, ◌<◌, ◌≤◌}
use native.Mathlib.Omega.{arith}
use lib.ListN.{length, drop, length-append, length-drop}
use lib.Seq.{drop_at}
use Rattle.laws.specs.Lists.{at}
use Rattle.laws.specs.Paint.{painted}
use Rattle.laws.proofs.Paint.{painted_cong, painted_all}
use Rattle.bitmap.specs.Mask.{bytes_of}
use Rattle.bitmap.proofs.Circle.{bytes_of_ext}
use Rattle.picture.specs.declared.Stand.{Stand}
use Rattle.picture.specs.declared.Screen.{Screen}
use Rattle.picture.specs.declared.Screen.TheVariants.{VisibleOnly, EffectiveArea, TrueEdges, Home}
use Rattle.picture.specs.Tile.{names_at}
use Rattle.picture.specs.View.{View, cut_mark, visible, true_edges}
use Rattle.picture.specs.Picture.{Row, back, front, picture}
use Rattle.picture.specs.Layers.{layers, layers_in}
use Rattle.picture.specs.Screen.{columns, row_size, row_bytes, status_bits}
use Rattle.picture.proofs.Laws.{length-row_bytes, row_size_lem}
use Rattle.background.specs.Background.{back_colour, shade, prio_to, cut_of}
use Rattle.background.proofs.Views.{back_at, front_at_lem, visible_x, effective_mark}
use Rattle.sprites.specs.Sprites.{Finished}
use Rattle.row.specs.declared.Back.{Back}
use Rattle.row.specs.Row.{Drawn, Backed}

-- ---- any view whose map columns are (sx + x) mod 256, whose map line is y, and whose first tile marks `cut` places to the left
module _
    (vram reg : List ℕ) (v : View) (names sx y : ℕ) (ne : names ≡ names_at (at reg)) (ex : (x : ℕ) → x < v.width → v.map_x x ≡ (sx + x) % 256)
    (ey : (x : ℕ) → v.map_y x ≡ y) (cut : ℕ) (em : (x : ℕ) → x < v.width → v.mark_at x ≡ cut_mark cut x)
  where
    pub back_is : (row₀ colours : List ℕ)
        → painted row₀ 0 v.width (λ x. at colours (back_colour vram names sx y x)) ≡ painted row₀ 0 v.width
        (λ x. at colours (back (at vram) (at reg) v x))
    back_is row₀ colours = painted_cong row₀ 0 v.width _ _ (λ x l. ap (at colours) (back_at vram reg v names sx y ne ex ey cut em x l))

    pub front_is : bytes_of (prio_to vram names sx y cut v.width) ≡ bytes_of (front (at vram) (at reg) v)
    front_is = bytes_of_ext _ _ (λ i h. front_at_lem vram reg v names sx y ne ex ey cut em i)

-- ---- a finished line of sprites over it is the picture
pub as_bytes : (row₀ colours : List ℕ) (width : ℕ) (p : Row) {row : List ℕ} → row ≡ painted row₀ 0 width (λ x. at colours (p.colour x)) → width * 4
    ≤ length row₀
    → row ≡ row_bytes colours width p ++ drop (width * 4) row₀
unfolding row_bytes
as_bytes row₀ colours width p e h = e ∙ painted_all row₀ width (λ x. at colours (p.colour x)) h

pub row_is : (m g : ℕ → ℕ) (v : View) (row₀ layers₀ colours : List ℕ) {row layers' : List ℕ} {hit ninth : Bool} {bits : ℕ} → v.width * 4 ≤ length
    row₀
    → Finished m g v.stand v.line (front m g v) row₀ colours v.width (back m g v) row hit ninth layers₀ layers' → bits ≡ cond hit 32 0 +
    cond ninth 64 0
    → (row ≡ row_bytes colours v.width (picture m g v) ++ drop (v.width * 4) row₀) × (bits ≡ status_bits (picture m g v)) ×
    (layers' ≡ layers_in layers₀ v.width (layers m g v))
unfolding picture layers
row_is m g v row₀ layers₀ colours h f e = (as_bytes row₀ colours v.width (picture m g v) f.bytes h, e ∙ rw (f.struck, f.many), f.owners)

-- what a line of sprites promises of the row under it, whatever that shows
abbrev pub Sprites : (ℕ → ℕ) → (ℕ → ℕ) → (ℕ → Stand) → ℕ → List ℕ → ℕ → List ℕ → List ℕ → List ℕ → List ℕ → List ℕ → Bool → Bool → Type 0
Sprites m g stand line colours width prio row₁ row layers₁ layers' hit ninth =
    (row₀ layers₀ : List ℕ) (f : ℕ → Bool) (colour : ℕ → ℕ) → prio ≡ bytes_of f → row₁ ≡ painted row₀ 0 width (λ x. at colours (colour x)) → layers₁ ≡
    layers_in layers₀ width (λ x. 0)
    → Finished m g stand line f row₀ colours width colour row hit ninth layers₀ layers'

-- ---- a row of the visible size, by the view of its screen
-- its background, scrolled both ways
pub scrolled : (s : Screen) (vram reg : List ℕ) (names sx cut scroll line : ℕ) (row₀ colours : List ℕ) (r : Back) {row : List ℕ} → columns s ≡ 160
    → at reg 8 < 256 → names ≡ names_at (at reg) → sx ≡ (304 - at reg 8) % 256 → cut ≡ cut_of s (sx % 8)
    → row ≡ painted row₀ 0 160 (shade colours (back_colour vram names sx ((line + 24 + scroll) % 224)))
    → r.prio.bits ≡ bytes_of (prio_to vram names sx ((line + 24 + scroll) % 224) cut 160) → r.width ≡ 160 → r.line ≡ line + 24 → r.fill ≡ false
    → Backed s reg scroll vram colours line row₀ row r
unfolding visible true_edges
scrolled VisibleOnly vram reg names sx cut scroll line row₀ colours r w low ne se ce re pe we le fe =
    let v = visible (at reg) scroll line in
    let y = (line + 24 + scroll) % 224 in
    let ex : (x : ℕ) → x < 160 → v.map_x x ≡ (sx + x) % 256 = λ x l. rw se (visible_x (at reg 8) x low) in
    let em : (x : ℕ) → x < 160 → v.mark_at x ≡ cut_mark cut x = λ x l. rw (ce, se) in
    record {
      bytes = re ∙ back_is vram reg v names sx y ne ex (λ x. refl) cut em row₀ colours;
      mask = pe ∙ front_is vram reg v names sx y ne ex (λ x. refl) cut em;
      wide = we;
      below = le;
      fill = fe;
    }
scrolled EffectiveArea vram reg names sx cut scroll line row₀ colours r w low ne se ce re pe we le fe = absurd (omega arith)
scrolled TrueEdges vram reg names sx cut scroll line row₀ colours r w low ne se ce re pe we le fe =
    let v = true_edges (at reg) scroll line in
    let y = (line + 24 + scroll) % 224 in
    let ex : (x : ℕ) → x < 160 → v.map_x x ≡ (sx + x) % 256 = λ x l. rw se (visible_x (at reg 8) x low) in
    let em : (x : ℕ) → x < 160 → v.mark_at x ≡ cut_mark cut x = λ x l. rw ce (effective_mark x (omega arith)) in
    record {
      bytes = re ∙ back_is vram reg v names sx y ne ex (λ x. refl) cut em row₀ colours;
      mask = pe ∙ front_is vram reg v names sx y ne ex (λ x. refl) cut em;
      wide = we;
      below = le;
      fill = fe;
    }
scrolled Home vram reg names sx cut scroll line row₀ colours r w low ne se ce re pe we le fe = absurd (omega arith)

-- ---- a row has room for the fill
pub row_long : (s : Screen) → 32 ≤ row_size s
row_long VisibleOnly = omega arith
row_long EffectiveArea = omega arith
row_long TrueEdges = omega arith
row_long Home = omega arith

-- ---- what a drawn row leaves: the buffer's length, and all behind the row
module _ (s : Screen) (colours : List ℕ) (p : Row) (row₀ row : List ℕ) (bits : ℕ) (d : Drawn s colours p row₀ row bits) where
  own : length (row_bytes colours (columns s) p) ≡ row_size s
  own = length-row_bytes colours (columns s) p ∙ row_size_lem s

  pub drawn_length : row_size s ≤ length row₀ → length row ≡ length row₀
  drawn_length h = ap length d.bytes ∙ rw (length-append, own, length-drop) (omega arith)

  pub drawn_rest : drop (row_size s) row ≡ drop (row_size s) row₀
  drawn_rest = ap (drop (row_size s)) d.bytes ∙ drop_at (row_bytes colours (columns s) p) (drop (row_size s) row₀) (row_size s) own
