use Rattle.std.proofs.Common.{◌≡◌, ◌+◌, ◌≤◌, ◌<◌, false, get_or, arith}
use Rattle.std.proofs.lemmas.List.{take_rest}
use Rattle.ssi_state.proofs.Blocks.{fronts_joined, item_in_fronts}
use Rattle.ssi_state.proofs.state.State.past_equal_blocks.Goals as goal

pub returns-clause-unchanged : goal.returns-clause-unchanged
returns-clause-unchanged c fact past within =
    let first = c.from-first.result in
    let far = c.equal_blocks-far.result in
    let near = c.equal_blocks.result in
    let now = c.deref.result.now in
    let before = c.deref-2.result.now in
    let same = fronts_joined _ _ far near (simp take_rest at c.equal_blocks-far.ensures.equal) (simp take_rest at c.equal_blocks.ensures.equal) in
    let there : first ≤ fact = omega (arith, past, c.from-first.ensures) in
    let here : fact < first + (far + near) = within in
    let unchanged : get_or before fact false ≡ get_or now fact false = item_in_fronts before now first (far + near) fact false same there here in
    cc
