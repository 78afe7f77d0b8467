use Rattle.ssi_script.proofs.ScriptLaws.{stopped_header}
use Rattle.ssi_script.proofs.ScriptAnswers.{all_can, all_within, scripts_of}
use Rattle.ssi_script.proofs.script.read_script.Goals as goal

pub returns-in-Ok-clause-script : goal.returns-in-Ok-clause-script
returns-in-Ok-clause-script c =
    let on = c.header.ensures.goes_on in
    scripts_of c.args.image.now c.args.tokens c.header.new.tokens c.steps.result on.text on.end c.in-Ok.field-0 c.in-Ok.ensures.reads c.steps.ensures

pub returns-in-Ok-clause-can : goal.returns-in-Ok-clause-can
returns-in-Ok-clause-can c =
    let on = c.header.ensures.goes_on in
    let is = scripts_of c.args.image.now c.args.tokens c.header.new.tokens c.steps.result on.text on.end c.in-Ok.field-0 c.in-Ok.ensures.reads c.steps.ensures in
    all_can c.args.image.now c.args.tokens c.steps.result c.counts-counts.ensures.well is

pub returns-in-Ok-clause-within : goal.returns-in-Ok-clause-within
returns-in-Ok-clause-within c =
    let on = c.header.ensures.goes_on in
    let is = scripts_of c.args.image.now c.args.tokens c.header.new.tokens c.steps.result on.text on.end c.in-Ok.field-0 c.in-Ok.ensures.reads c.steps.ensures in
    all_within c.args.image.now c.args.tokens c.steps.result is

pub returns-in-Err-clause-script : goal.returns-in-Err-clause-script
returns-in-Err-clause-script c =
    let stops = stopped_header c.args.image.now c.args.tokens.text c.args.tokens.left c.args.tokens.end _ c.header.new.tokens.left c.in-Err.ensures.reads in
    rw (c.new.ensures.items, c.misspelled.ensures, c.header.ensures.goes_on.end) stops
