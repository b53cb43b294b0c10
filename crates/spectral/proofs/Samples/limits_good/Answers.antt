-- `limits_good` meets its contract: its four folds are the definition's tests.
use Rattle.spectral.specs.Samples.{sample_limit, table_limit, limits_good}
use Rattle.spectral.proofs.Folds.{all_fold}
use Rattle.spectral.proofs.Samples.limits_good.Goals as goal

pub returns : goal.returns
unfolding limits_good
returns c =
    let l = c.args.self.now in
    cc (all_fold sample_limit l.samples.now, all_fold table_limit l.x_bar.now, all_fold table_limit l.y_bar.now, all_fold table_limit l.z_bar.now)
