-- A file is opened at the path that the source names.
use Rattle.std.proofs.Common.{rules, ◌≡◌, string_bytes, ◌∙◌}
use Rattle.deadpool_sqlite.proofs.source.AtPathSource.open.Goals as goal

pub returns : goal.returns
returns c =
    let same : c.deref.result.now ≡ string_bytes c.args.self.now.path = search rules in
    (c.open.ensures.fresh, c.open.ensures.opened, c.open.ensures.named, λ is. c.open.ensures.memory (same ∙ is))
