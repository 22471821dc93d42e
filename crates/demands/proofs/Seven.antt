-- Refusal 7 never comes, of either machine.
-- Assumes nothing.
use Rattle.raster.specs.declared.LineTable.{LineTable}
use Rattle.passes.specs.Pass.{History}
use Rattle.passes.specs.Seven.{NeverSeven}
use Rattle.passes.proofs.Seven.{never_seven}
use Rattle.demands.specs.Handheld.{handheld}
use Rattle.demands.specs.Home.{home}
use Rattle.demands.proofs.Handheld.{handheld_lawful}
use Rattle.demands.proofs.Home.{home_lawful}

-- the handheld
pub never_seven_handheld : (t : LineTable) (h : History handheld) → NeverSeven handheld t h
never_seven_handheld = never_seven handheld_lawful

-- the home machine
pub never_seven_home : (t : LineTable) (h : History home) → NeverSeven home t h
never_seven_home = never_seven home_lawful
