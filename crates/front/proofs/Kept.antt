-- What a port write on a front keeps, and when its byte is for the palette.
-- Assumes nothing.
use Rattle.std.specs.Prelude.{None, Option, Some, ℕ}
use Prim.Native.Nat.{ℕ, ◌/◌, ◌%◌, ◌<◌}
use mathlib.Core.Path.{◌≡◌, refl, sym, ◌∙◌}
use mathlib.Core.List.{List}
use mathlib.Core.Bool.{true, false}
use lib.Dec.{ltb, eqb}
use lib.ListN.{length, length-set}
use borrow.Author.Tests.{ltb-true}
use Rattle.laws.proofs.Tests.{either, clash}
use Rattle.front.specs.declared.Front.{Front}
use Rattle.front.specs.declared.FrontWritten.{FrontWritten}
use Rattle.front.specs.declared.ReadBack.{ReadBack}
use Rattle.front.specs.declared.WriteDest.{WriteDest}
use Rattle.front.specs.declared.WriteDest.TheVariants.{Vram, Cram}
use Rattle.front.specs.Front.{FrontAfter, emptied, for_palette, command_by, data_by, read_by}
use Rattle.refusal.specs.Refusals.{whole}
use Rattle.front.specs.Lines.{is_port}
use Rattle.front.specs.Ports.{front_write, front_read}

-- a byte for the palette: the front is as it was but for its latch, the palette is chosen, and the address lies in it
pub record Aims (n : ℕ) (f : Front) (m : List ℕ) (a : FrontAfter) : Type 0 where
  pub answer : a.answer ≡ for_palette (emptied f)
  pub memory : a.vram ≡ m
  pub chosen : f.dest ≡ (Some Cram)
  pub inside : f.addr < n

module _ (n : ℕ) (f : Front) (m : List ℕ) where
  pub record Keeps (a : FrontAfter) : Type 0 where
    pub registers : length a.answer.front.reg ≡ length f.reg
    pub memory : length a.vram ≡ length m
    pub palette : a.answer.palette ≡ true → Aims n f m a

  -- of an answer that leaves video memory
  abbrev KeptW : FrontWritten → Type 0
  KeptW a = Keeps (record { answer = a; vram = m })

  -- no byte for the palette, the registers as many, video memory as long
  left : (a : FrontAfter) → length a.answer.front.reg ≡ length f.reg → length a.vram ≡ length m → a.answer.palette ≡ false → Keeps a
  left a r l e = record { registers = r; memory = l; palette = λ t. clash (sym t ∙ e) }

  command : (l : Option ℕ) (v : ℕ) → KeptW (command_by l n f m v)
  command None v = left _ refl refl refl
  command (Some d) v =
      either KeptW (eqb (v / 64) 0) (λ _. left _ refl refl refl)
      (λ _. either KeptW (eqb (v / 64) 1) (λ _. left _ refl refl refl)
      (λ _. either KeptW (eqb (v / 64) 2)
      (λ _. either KeptW (ltb 10 (v % 128)) (λ _. left _ refl refl refl) (λ _. left _ (simp length-set) refl refl))
      (λ _. left _ refl refl refl)))

  to_chosen : (d : Option WriteDest) (v : ℕ) → f.dest ≡ d → Keeps (data_by d n (emptied f) m v)
  to_chosen None v e = left _ refl refl refl
  to_chosen (Some Vram) v e = either Keeps (ltb f.addr 16384) (λ _. left _ refl (simp length-set) refl) (λ _. left _ refl refl refl)
  to_chosen (Some Cram) v e =
      either KeptW (ltb f.addr n)
      (λ t. record {
        registers = refl;
        memory = refl;
        palette = λ _. record
            { answer = refl; memory = refl; chosen = e; inside = ltb-true f.addr n t };
      })
      (λ _. left _ refl refl refl)

  pub write_kept : (p v : ℕ) → Keeps (front_write n f m p v)
  unfolding front_write
  write_kept p v =
      either Keeps (whole m)
      (λ _. either Keeps (is_port 0xBF p) (λ _. command f.cmd_byte1 v)
      (λ _. either Keeps (is_port 0xBE p) (λ _. to_chosen f.dest v refl) (λ _. left _ refl refl refl)))
      (λ _. left _ refl refl refl)

-- an answer that is for the palette has its address there
pub inside : (n : ℕ) (f : Front) (m : List ℕ) (p v : ℕ) (r : FrontWritten) → r ≡ (front_write n f m p v).answer → r.palette ≡ true → r.front.addr < n
inside n f m p v r e t =
    let k = (write_kept n f m p v).palette (rw e at t) in
    rw (e, k.answer) k.inside

-- a read keeps the registers
module _ (f : Front) (m : List ℕ) where
  abbrev RegistersR : ReadBack Front → Type 0
  RegistersR a = a.device.reg ≡ f.reg

  from_chosen : (d : Option WriteDest) → RegistersR (read_by d (emptied f) m)
  from_chosen None = refl
  from_chosen (Some Cram) = refl
  from_chosen (Some Vram) = either RegistersR (ltb f.addr 16384) (λ _. refl) (λ _. refl)

  pub read_registers : (p counter : ℕ) → (front_read f m p counter).device.reg ≡ f.reg
  unfolding front_read
  read_registers p counter =
      either RegistersR (whole m)
      (λ _. either RegistersR (is_port 0x7E p) (λ _. refl)
      (λ _. either RegistersR (is_port 0x7F p) (λ _. refl)
      (λ _. either RegistersR (is_port 0xBF p) (λ _. refl)
      (λ _. either RegistersR (is_port 0xBE p) (λ _. from_chosen f.dest) (λ _. refl)))))
      (λ _. refl)
