use Rattle.tp_flow.specs.NestRanges.{ranges}
use Rattle.tp_flow.specs.LoopsAround.{is_around}
use Rattle.tp_state.proofs.FitsAbove.{fits_above}
use Rattle.tp_state.proofs.laws.fits.what_fits_fits_above.Goals as goal

pub returns : goal.returns
returns c = λ image at t u s. fits_above image (is_around (ranges image.loops) at) at t u s
