-- What a port call of the home machine keeps: the raster, the cache and that it is dirty, the length of palette, registers and memory, that clean
-- colours are the palette's,
-- and that the address lies in its memory.
-- Assumes nothing.
use Prim.Native.Nat.{ℕ}
use mathlib.Core.Path.{◌≡◌, refl}
use mathlib.Core.Bool.{Bool, true, false}
use mathlib.Core.List.{List}
use native.Mathlib.Omega.{arith}
use lib.Dec.{eqb}
use lib.ListN.{length, length-set}
use lib.Seq.{set-get_or}
use borrow.Author.Tests.{eqb-true, not-false}
use Rattle.laws.specs.Lists.{at}
use Rattle.laws.proofs.Tests.{either, neither}
use Rattle.colour.specs.Home.{home_colours_of}
use Rattle.front.specs.Ports.{front_write}
use Rattle.front.specs.Front.{changed}
use Rattle.front.proofs.Invariant.{front_write_aimed, front_read_aimed}
use Rattle.front.proofs.Kept.{write_kept, read_registers}
use Rattle.home.specs.declared.HomeState.{HomeState}
use Rattle.front.specs.declared.Written.{Written}
use Rattle.home.specs.Ports.{stored, port_write, port_read}
use Rattle.home.specs.Promises.{Aimed}

-- the cached colours are the palette's whenever the record is not dirty
abbrev pub Clean : HomeState → Type 0
Clean h = h.cram_dirty ≡ false → h.color_cache ≡ home_colours_of h.cram

pub record Keeps (h h' : HomeState) : Type 0 where
  pub raster : h'.raster ≡ h.raster
  pub cache : h'.color_cache ≡ h.color_cache
  pub dirty : h.cram_dirty ≡ true → h'.cram_dirty ≡ true
  pub palette : length h'.cram ≡ length h.cram
  pub registers : length h'.front.reg ≡ length h.front.reg
  pub clean : Clean h → Clean h'
  pub aimed : Aimed h → Aimed h'

module _ (h : HomeState) where
  -- a byte that is there already leaves the palette as it is
  recoloured : (a v : ℕ) → Clean h → Clean (stored h a v)
  recoloured a v k e =
      let c : Bool = changed (at h.cram a) v in
      let q = neither h.cram_dirty c e in
      rw (← eqb-true (at h.cram a) v (not-false (eqb (at h.cram a) v) q.1), set-get_or h.cram a 0) (k q.0)

  abbrev KeptW : Written HomeState → Type 0
  KeptW r = Keeps h r.device

  pub write_keeps : (m : List ℕ) (p v : ℕ) → Keeps h (port_write h m p v).answer.device
  unfolding port_write
  write_keeps m p v =
      let a = (front_write 32 h.front m p v).answer in
      let k = write_kept 32 h.front m p v in
      either KeptW a.palette
      (λ t.
      record {
        raster = refl;
        cache = refl;
        dirty = λ d. rw d;
        palette = simp length-set;
        registers = k.registers;
        clean = recoloured a.front.addr v;
        aimed = λ _. rw ((k.palette t).answer, (k.palette t).chosen) (omega arith);
      })
      (λ _.
      record {
        raster = refl;
        cache = refl;
        dirty = λ d. d;
        palette = refl;
        registers = k.registers;
        clean = λ c. c;
        aimed = front_write_aimed 32 (omega arith) h.front m p v;
      })

  -- and video memory has its length
  pub write_memory : (m : List ℕ) (p v : ℕ) → length (port_write h m p v).vram ≡ length m
  unfolding port_write
  write_memory m p v = (write_kept 32 h.front m p v).memory

  pub read_keeps : (m : List ℕ) (p : ℕ) → Keeps h (port_read h m p).device
  unfolding port_read
  read_keeps m p =
      let counter = h.raster.v_counter in
      record {
        raster = refl;
        cache = refl;
        dirty = λ d. d;
        palette = refl;
        registers = rw (read_registers h.front m p counter);
        clean = λ c. c;
        aimed = front_read_aimed 32 (omega arith) h.front m p counter;
      }

  -- a read leaves palette and registers as they are
  pub read_palette : (m : List ℕ) (p : ℕ) → (port_read h m p).device.cram ≡ h.cram
  unfolding port_read
  read_palette m p = refl

  pub read_reg : (m : List ℕ) (p : ℕ) → (port_read h m p).device.front.reg ≡ h.front.reg
  unfolding port_read
  read_reg m p = read_registers h.front m p h.raster.v_counter
