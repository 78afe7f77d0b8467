use Rattle.std.proofs.Common.{◌≡◌, None, ap, sym, ◌∙◌}
use Rattle.std.specs.Prelude.{position}
use Rattle.std.specs.Str.{bytes_eq}
use Rattle.ssi_identities.proofs.Places.{position-map, pushed}
use Rattle.ssi_identities.proofs.names.Texts.append.Goals as goal

pub returns-clause-ok : goal.returns-clause-ok
returns-clause-ok c =
    let key = c.in_ok-from_slice.field-0 in
    let keys = c.self.inside.set.keys in
    let copied : key.items ≡ c.args.text.now = c.in_ok-from_slice.ensures.items in
    let before : position (bytes_eq key.items) c.args.self.now ≡ None = rw copied c.requires.absent in
    let absent : position (λ v. bytes_eq key.items v.items) keys ≡ None =
    sym (position-map (bytes_eq key.items) (λ v. v.items) keys) ∙ ap (position (bytes_eq key.items)) c.self.view_is ∙ before
    in
    rw (← c.self.view_is) (pushed (λ v. v.items) (λ v. bytes_eq key.items v.items) c.args.text.now keys _ key absent c.in_ok-insert.ensures.keys copied)
