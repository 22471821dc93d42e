-- R3.3 to R3.6, R3.8 to R3.10, the ports of a front: what a port call answers and leaves, whatever the palette is.
-- Assumes nothing.
use Rattle.std.specs.Prelude.{ℕ, ◌≡◌, List, cond, Err}
use Rattle.refusal.specs.declared.Refusal.TheVariants.{UnknownPort, HorizontalCounter, VramLength}
use Rattle.refusal.specs.Refusals.{whole}
use Rattle.front.specs.declared.Front.{Front}
use Rattle.front.specs.declared.FrontWritten.{FrontWritten}
use Rattle.front.specs.declared.ReadBack.{ReadBack}
use Rattle.front.specs.Front.{FrontAfter, sent, refused_read, given, command_write, data_write, status_read, data_read}
use Rattle.front.specs.Lines.{is_port}

-- with n bytes of palette
unfoldable pub front_write : ℕ → Front → List ℕ → ℕ → ℕ → FrontAfter
front_write n f m p v =
    cond (whole m)
    (cond (is_port 0xBF p) (record { answer = command_write n f m v; vram = m })
    (cond (is_port 0xBE p) (data_write n f m v) (record { answer = sent (Err UnknownPort) f; vram = m })))
    (record { answer = sent (Err VramLength) f; vram = m })

-- R3.10 is the read of 7E, where `counter` stands
unfoldable pub front_read : Front → List ℕ → ℕ → ℕ → ReadBack Front
front_read f m p counter =
    cond (whole m)
    (cond (is_port 0x7E p) (given counter f)
    (cond (is_port 0x7F p) (refused_read HorizontalCounter f)
    (cond (is_port 0xBF p) (status_read f)
    (cond (is_port 0xBE p) (data_read f m) (refused_read UnknownPort f)))))
    (refused_read VramLength f)

-- What a write on a front promises: its answer r, and what video memory holds after it, m'.
pub record FrontLeaves (n : ℕ) (f : Front) (m : List ℕ) (p v : ℕ) (r : FrontWritten) (m' : List ℕ) : Type 0 where
  pub answer : r ≡ (front_write n f m p v).answer
  pub memory : m' ≡ (front_write n f m p v).vram
