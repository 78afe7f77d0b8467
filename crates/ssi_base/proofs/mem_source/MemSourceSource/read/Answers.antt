use Rattle.std.proofs.Common.{◌≡◌, arith, ap, drop, length, sym}
use Rattle.std.proofs.lemmas.Grind.{common_steps}
use Rattle.ssi_base.specs.InMemory.{MemoryInput}
use Rattle.ssi_base.proofs.Reading.{given_next, at_end}
use Rattle.ssi_base.proofs.mem_source.MemSourceSource.read.Goals as goal

pub returns-clause-bytes : goal.returns-clause-bytes
returns-clause-bytes c =
    let inside = c.self.inside in
    let count = c.min-count.result in
    let left : c.args.self.now.left ≡ drop c.self.inside.given c.self.inside.bytes.items = ap (λ (v : MemoryInput). v.left) (sym c.self.view_is) in (
      given_next _ inside.bytes.items c.copy_from_slice.new.self (drop count c.args.buf.now) inside.given count left (grind (arith, common_steps)) (grind (arith, common_steps)),
      λ none room. at_end inside.bytes.items inside.given count (length c.args.buf.now) inside.piece (grind (arith, common_steps)) (omega arith) none (grind (arith, common_steps)),
    )
