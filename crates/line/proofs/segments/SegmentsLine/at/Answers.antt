-- `line::segments::SegmentsLine::at` meets its contract. Assumes nothing.
use mathlib.Core.Path.{refl}
use Rattle.line.proofs.PlaceLaws.{first_ahead}
use Rattle.line.proofs.segments.SegmentsLine.at.Goals as goal

pub advance-requires : goal.advance-requires
advance-requires c =
    let x = c.args.self.now in
    first_ahead x.units.now x.costs.now x.values.now c.args.place x.all x.known c.requires _ refl
