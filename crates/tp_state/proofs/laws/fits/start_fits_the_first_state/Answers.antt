use Rattle.tp_state.proofs.EntryFits.{start_fits}
use Rattle.tp_state.proofs.laws.fits.start_fits_the_first_state.Goals as goal

pub returns : goal.returns
returns c = start_fits
