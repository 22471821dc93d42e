-- Where a sprite stands on each screen, and what its drawing asks of that.
-- Assumes nothing.
use Rattle.std.specs.Prelude.{ℕ, ◌<◌, ◌≤◌}
use Rattle.picture.specs.declared.Stand.{Stand}
use Rattle.picture.specs.declared.Screen.{Screen}
use Rattle.picture.specs.declared.Screen.TheVariants.{VisibleOnly, EffectiveArea, TrueEdges, Home}
use Rattle.picture.specs.View.{visible_stand, effective_stand, edge_stand}

-- where a sprite with X byte h stands on a screen
abbrev pub stand_of : Screen → ℕ → ℕ → Stand
stand_of VisibleOnly e h = visible_stand e h
stand_of EffectiveArea e h = effective_stand e h
stand_of TrueEdges e h = edge_stand 48 160 e h
stand_of Home e h = edge_stand 0 256 e h

-- what the drawing of a sprite that stands at s asks
pub record Fits (s : Stand) : Type 0 where
  pub end_low : s.end ≤ 8
  pub start_low : s.start ≤ 256
  pub x_low : s.x < 256
  pub prio_low : s.prio < 512
  pub mark_low : s.mark < 512
