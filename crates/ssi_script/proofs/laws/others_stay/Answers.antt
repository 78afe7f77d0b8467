use Rattle.ssi_script.proofs.Others.{after_session, in_session}
use Rattle.ssi_script.proofs.laws.others_stay.Goals as goal

pub returns-clause-pieces : goal.returns-clause-pieces
returns-clause-pieces c = λ plan steps shelf well can. in_session plan well shelf steps can

pub returns-clause-behind : goal.returns-clause-behind
returns-clause-behind c = λ plan steps shelf well can. after_session plan well shelf steps can
