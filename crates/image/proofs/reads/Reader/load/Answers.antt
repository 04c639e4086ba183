use Rattle.std.proofs.Common.{◌≡◌, ◌-◌, ◌++◌, drop, Err, sym, ap, ◌∙◌}
use Rattle.image.proofs.Exits.{exit_is}
use Rattle.image.proofs.ImageFacts.{load_missing, load_short, load_full}
use Rattle.image.proofs.reads.Reader.load.Goals as goal

-- the two parts of an answer
parts : {A B : Type 0} {p : A × B} {a : A} {b : B} → p ≡ (a, b) → (a ≡ p.0) × (b ≡ p.1)
parts e = (sym (ap (λ x. x.0) e), sym (ap (λ x. x.1) e))

pub returns-in_err-run : goal.returns-in_err-run
returns-in_err-run c =
    let s = c.args.self.now in
    let e = c.in_err-run.ensures.err in
    let a = parts (load_missing s.layout.bytes.now s.sound c.args.place c.args.buffer.now e.0) in
    record { answer = exit_is c.from_residual.ensures.1 ∙ (ap Err e.1 ∙ a.0); written = a.1 }

pub returns-then-buffer-length : goal.returns-then-buffer-length
returns-then-buffer-length c =
    let s = c.args.self.now in
    let a = parts (load_short s.layout.bytes.now s.sound c.args.place _ _ c.args.buffer.now c.in_ok-run.ensures.ok c.if-buffer-length.true) in
    record { answer = ap Err c.whole_call.ensures ∙ a.0; written = a.1 }

pub returns : goal.returns
returns c =
    let s = c.args.self.now in
    let a = parts (load_full s.layout.bytes.now s.sound c.args.place _ _ c.args.buffer.now c.in_ok-run.ensures.ok c.if-buffer-length.false) in
    record { answer = a.0; written = ap (λ v. v ++ drop (c.in_ok-run.run'.end - c.in_ok-run.run'.start) c.args.buffer.now) c.copy.ensures ∙ a.1 }
