use Rattle.msrp_merge.proofs.Fitting.{fits_quiet, fits_step}
use Rattle.msrp_merge.proofs.laws.logs_fit_turn_by_turn.Goals as goal

pub returns : goal.returns
returns c = record { start = record { places = tt; steps = tt }; quiet = fits_quiet; step = fits_step }
