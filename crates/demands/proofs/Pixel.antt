-- One pixel is the row's.
-- Assumes nothing.
use Rattle.std.specs.Prelude.{Some, Ok}
use mathlib.Core.Path.{sym, ap, ◌∙◌}
use mathlib.Core.List.{List}
use Prim.Native.Nat.{ℕ}
use lib.ListN.{drop}
use Rattle.picture.specs.declared.Screen.{Screen}
use Rattle.picture.specs.declared.Screen.TheVariants.{Home}
use Rattle.picture.specs.declared.RenderArea.{RenderArea}
use Rattle.picture.specs.Screen.{row_size, picture_of}
use Rattle.picture.specs.Area.{screen_of}
use Rattle.points.specs.Points.{Reading}
use Rattle.vdp.specs.declared.VdpState.{VdpState}
use Rattle.pixel.specs.Pixel.{Pixel, colour_of, pixel_of}
use Rattle.pixel.proofs.Spots.{pixel_inside, pixel_outside, pixel_refused, pixel_drawn}
use Rattle.step.specs.Step.{reading_of}
use Rattle.home.specs.declared.HomeState.{HomeState}
use Rattle.home.specs.Step as home
use Rattle.look.proofs.Pixels.{pixel_after_step}
use Rattle.look.proofs.HomePixels as home-look
use Rattle.demands.specs.Pixel.{PixelIsRow, HandheldPixel, HomePixel}

-- of any machine, by what a step reads of it
is_row : (s : Screen) (vram : List ℕ) (k : Reading) (y x : ℕ)
    → PixelIsRow s k.colours vram (picture_of s k.reg k.raster.vertical_scroll vram) y x (pixel_of s vram k y x)
is_row s vram k y x =
    record {
      there = λ m h l. let e = pixel_inside s vram k y x m h l in e ∙ sym (ap (λ (p : Pixel). Ok (Some (colour_of p))) e);
      bytes = λ m h l row₀ row bits b c e. pixel_drawn s vram k y x b c m h l (drop (row_size s) row₀) e.bytes;
      outside = pixel_outside s vram k y x;
      refused = pixel_refused s vram k y x;
    }

pub pixel_is_row : (a : RenderArea) (vram : List ℕ) (d : VdpState) (y x : ℕ) → HandheldPixel a vram d y x
pixel_is_row a vram d y x =
    record {
      now = is_row (screen_of a) vram (reading_of d) y x;
      after_step = λ l buffer buffer' r b s e q. pixel_after_step a vram d y x b s l buffer buffer' r e q;
    }

pub home_pixel_is_row : (vram : List ℕ) (h : HomeState) (y x : ℕ) → HomePixel vram h y x
home_pixel_is_row vram h y x =
    record {
      now = is_row Home vram (home.reading_of h) y x;
      after_step = λ l buffer buffer' r b s e q. home-look.pixel_after_step vram h y x b s l buffer buffer' r e q;
    }
