use Rattle.std.proofs.Common.{ap, arith}
use Rattle.image.specs.declared.frame.Header.{Header}
use Rattle.image.proofs.ImageFacts.{run_of}
use Rattle.image.proofs.reads.Reader.run.Goals as goal

pub returns-clause-ok : goal.returns-clause-ok
returns-clause-ok c =
    let s = c.args.self.now in
    let e = ap (λ (h : Header). h.entities) s.layout.announced in
    run_of s.layout.bytes.now s.sound c.args.place _ _ (omega arith) c.first.ensures c.end.ensures
