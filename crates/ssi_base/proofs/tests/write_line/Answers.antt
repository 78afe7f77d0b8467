use Rattle.ssi_base.proofs.Writing.{joins}
use Rattle.ssi_base.proofs.tests.write_line.Goals as goal

pub returns-in_err-write_telegram : goal.returns-in_err-write_telegram
returns-in_err-write_telegram g c = search joins depth 9 fits 20000

pub returns-in_err-write_all : goal.returns-in_err-write_all
returns-in_err-write_all g c = search joins depth 9 fits 20000

pub returns-in_err-write_all-2 : goal.returns-in_err-write_all-2
returns-in_err-write_all-2 g c = search joins depth 9 fits 20000

pub returns : goal.returns
returns g c = search joins depth 9 fits 20000
