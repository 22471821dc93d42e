-- R2.1, R3.1: the bytes of video memory and of the palette, which every layer goes by.
-- Assumes nothing.
use Rattle.std.specs.Prelude.{ℕ}

abbrev pub vram_size : ℕ
vram_size = 16384

abbrev pub cram_size : ℕ
cram_size = 64
