use Rattle.std.proofs.Common.{◌++◌, [], ap, sym, ◌∙◌}
use Rattle.std.proofs.lemmas.List.{append-nil}
use Rattle.std.specs.List.{flat_map}
use Rattle.ssi_identities.specs.DataSets.{Plan}
use Rattle.ssi_image.specs.Packed.{move_pieces, request_pieces, statement_pieces, output_pieces, input_pieces}
use Rattle.ssi_image.proofs.Packing.{behind, begins_so}
use Rattle.ssi_image.proofs.assembly.rows.Goals as goal

pub pack_all-requires-2 : goal.pack_all-requires-2
pack_all-requires-2 c =
    let plan = c.args.plan.now in
    let inputs = flat_map input_pieces plan.modules in
    let outputs = flat_map output_pieces plan.modules ++ inputs in
    let statements = flat_map statement_pieces plan.statements ++ outputs in
    let requests = flat_map request_pieces plan.requests ++ statements in
    let one = behind move_pieces plan.points c.as_slice.result.now _ c.pack_all.new.pieces requests (c.new-pieces.ensures ∙ c.requires) c.in_ok-points.ensures.taken
    (c.as_slice.ensures.value ∙ ap (λ (p : Plan). p.points) c.plan.view_is)
    in
    begins_so request_pieces plan.requests c.as_slice-2.result.now c.pack_all.new.pieces statements one (c.as_slice-2.ensures.value ∙ ap (λ (p : Plan). p.requests) c.plan.view_is)

pub pack_all-requires-3 : goal.pack_all-requires-3
pack_all-requires-3 c =
    let plan = c.args.plan.now in
    let inputs = flat_map input_pieces plan.modules in
    let outputs = flat_map output_pieces plan.modules ++ inputs in
    let statements = flat_map statement_pieces plan.statements ++ outputs in
    let requests = flat_map request_pieces plan.requests ++ statements in
    let one = behind move_pieces plan.points c.as_slice.result.now _ c.pack_all.new.pieces requests (c.new-pieces.ensures ∙ c.requires) c.in_ok-points.ensures.taken
    (c.as_slice.ensures.value ∙ ap (λ (p : Plan). p.points) c.plan.view_is)
    in
    let two = behind request_pieces plan.requests c.as_slice-2.result.now _ c.pack_all-2.new.pieces statements one c.in_ok-requests.ensures.taken
    (c.as_slice-2.ensures.value ∙ ap (λ (p : Plan). p.requests) c.plan.view_is)
    in
    begins_so statement_pieces plan.statements c.as_slice-3.result.now c.pack_all-2.new.pieces outputs two (c.as_slice-3.ensures.value ∙ ap (λ (p : Plan). p.statements) c.plan.view_is)

pub pack_all-requires-4 : goal.pack_all-requires-4
pack_all-requires-4 c =
    let plan = c.args.plan.now in
    let inputs = flat_map input_pieces plan.modules in
    let outputs = flat_map output_pieces plan.modules ++ inputs in
    let statements = flat_map statement_pieces plan.statements ++ outputs in
    let requests = flat_map request_pieces plan.requests ++ statements in
    let one = behind move_pieces plan.points c.as_slice.result.now _ c.pack_all.new.pieces requests (c.new-pieces.ensures ∙ c.requires) c.in_ok-points.ensures.taken
    (c.as_slice.ensures.value ∙ ap (λ (p : Plan). p.points) c.plan.view_is)
    in
    let two = behind request_pieces plan.requests c.as_slice-2.result.now _ c.pack_all-2.new.pieces statements one c.in_ok-requests.ensures.taken
    (c.as_slice-2.ensures.value ∙ ap (λ (p : Plan). p.requests) c.plan.view_is)
    in
    let three = behind statement_pieces plan.statements c.as_slice-3.result.now _ c.pack_all-3.new.pieces outputs two c.in_ok-statements.ensures.taken
    (c.as_slice-3.ensures.value ∙ ap (λ (p : Plan). p.statements) c.plan.view_is)
    in
    begins_so output_pieces plan.modules c.as_slice-4.result.now c.pack_all-3.new.pieces inputs three (c.as_slice-4.ensures.value ∙ ap (λ (p : Plan). p.modules) c.plan.view_is)

pub pack_all-requires-5 : goal.pack_all-requires-5
pack_all-requires-5 c =
    let plan = c.args.plan.now in
    let inputs = flat_map input_pieces plan.modules in
    let outputs = flat_map output_pieces plan.modules ++ inputs in
    let statements = flat_map statement_pieces plan.statements ++ outputs in
    let requests = flat_map request_pieces plan.requests ++ statements in
    let one = behind move_pieces plan.points c.as_slice.result.now _ c.pack_all.new.pieces requests (c.new-pieces.ensures ∙ c.requires) c.in_ok-points.ensures.taken
    (c.as_slice.ensures.value ∙ ap (λ (p : Plan). p.points) c.plan.view_is)
    in
    let two = behind request_pieces plan.requests c.as_slice-2.result.now _ c.pack_all-2.new.pieces statements one c.in_ok-requests.ensures.taken
    (c.as_slice-2.ensures.value ∙ ap (λ (p : Plan). p.requests) c.plan.view_is)
    in
    let three = behind statement_pieces plan.statements c.as_slice-3.result.now _ c.pack_all-3.new.pieces outputs two c.in_ok-statements.ensures.taken
    (c.as_slice-3.ensures.value ∙ ap (λ (p : Plan). p.statements) c.plan.view_is)
    in
    let four = behind output_pieces plan.modules c.as_slice-4.result.now _ c.pack_all-4.new.pieces inputs three c.in_ok-outputs.ensures.taken
    (c.as_slice-4.ensures.value ∙ ap (λ (p : Plan). p.modules) c.plan.view_is)
    in
    begins_so input_pieces plan.modules c.as_slice-5.result.now c.pack_all-4.new.pieces [] (four ∙ sym (append-nil inputs)) (c.as_slice-5.ensures.value ∙ ap (λ (p : Plan). p.modules) c.plan.view_is)
