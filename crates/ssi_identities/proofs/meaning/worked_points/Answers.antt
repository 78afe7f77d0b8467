use Rattle.std.proofs.Common.{◌∙◌, ap, true, false, ◌&&◌}
use Rattle.ssi_identities.specs.Values.{move_scene, scene_of}
use Rattle.ssi_identities.specs.WorkedExamples.{points_and_flag, points_are}
use Rattle.ssi_identities.proofs.Examples.{free_to_holds}
use Rattle.ssi_identities.proofs.Values.{fact_holds}
use Rattle.ssi_identities.proofs.meaning.worked_points.Goals as goal

pub returns-clause-controlled_normal : goal.returns-clause-controlled_normal
returns-clause-controlled_normal c = λ p2 l1 report. free_to_holds (scene_of points_and_flag (points_are false p2 l1) report) 0 false

pub returns-clause-free_to_normal : goal.returns-clause-free_to_normal
returns-clause-free_to_normal c = λ p2 report.
    let state = points_are true p2 true in
    free_to_holds (scene_of points_and_flag state report) 0 false ∙ ap (λ holds. holds && true) (fact_holds (move_scene state report) 6 true)

pub returns-clause-held_reverse : goal.returns-clause-held_reverse
returns-clause-held_reverse c = λ p2 report.
    let state = points_are true p2 false in
    free_to_holds (scene_of points_and_flag state report) 0 false ∙ ap (λ holds. holds && true) (fact_holds (move_scene state report) 6 true)

pub returns-clause-controlled_reverse : goal.returns-clause-controlled_reverse
returns-clause-controlled_reverse c = λ p2 l1 report. free_to_holds (scene_of points_and_flag (points_are true p2 l1) report) 0 true

pub returns-clause-free_to_reverse : goal.returns-clause-free_to_reverse
returns-clause-free_to_reverse c = λ p2 report.
    let state = points_are false p2 false in
    free_to_holds (scene_of points_and_flag state report) 0 true ∙ ap (λ holds. holds && true) (fact_holds (move_scene state report) 6 false)

pub returns-clause-held_normal : goal.returns-clause-held_normal
returns-clause-held_normal c = λ p2 report.
    let state = points_are false p2 true in
    free_to_holds (scene_of points_and_flag state report) 0 true ∙ ap (λ holds. holds && true) (fact_holds (move_scene state report) 6 false)

pub returns-clause-other_points : goal.returns-clause-other_points
returns-clause-other_points c = λ p1 report.
    let state = points_are p1 false true in
    free_to_holds (scene_of points_and_flag state report) 1 true ∙ ap (λ holds. holds && true) (fact_holds (move_scene state report) 6 true)

pub returns-clause-no_condition : goal.returns-clause-no_condition
returns-clause-no_condition c = λ p1 l1 report. free_to_holds (scene_of points_and_flag (points_are p1 true l1) report) 1 false
