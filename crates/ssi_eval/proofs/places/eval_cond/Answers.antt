use Rattle.ssi_eval.proofs.AtPlaces.{cond_there, some_cond}
use Rattle.ssi_eval.proofs.places.eval_cond.Goals as goal

pub value-requires-clause-code : goal.value-requires-clause-code
value-requires-clause-code c = some_cond c.args.image.now c.args.place c.cond_code-code.result.now c.cond_code-code.ensures.well c.requires.there c.cond_code-code.ensures.code

pub returns : goal.returns
returns c = λ cond there. c.value.ensures.value _ cond (cond_there c.args.image.now c.args.place cond c.cond_code-code.result.now c.cond_code-code.ensures.well there (c.cond_code-code.ensures.code cond there))
