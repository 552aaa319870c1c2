use Rattle.std.proofs.Common.{[], ◌∷◌, ◌++◌, get_or, take, sym, ap, ◌∙◌}
use Rattle.std.proofs.lemmas.List.{append-nil, take_more}
use Rattle.commands.specs.Buffer.{kept}
use Rattle.commands.proofs.Cut.{kept_whole, pushed_more}
use Rattle.commands.proofs.line_buffer.LineBuffer.push_bytes.Goals as goal

pub loop-byte-init : goal.loop-byte-init
loop-byte-init c = kept_whole c.args.self.now.bytes c.args.self.now.len c.args.self.now.within ∙ ap (take 81) (sym (append-nil (kept c.args.self.now)))

pub loop-byte-preserved : goal.loop-byte-preserved
loop-byte-preserved c =
    let xs = kept c.args.self.now in
    let bytes = c.args.bytes.now in
    let i = c.loop-byte.byte-index in
    pushed_more xs (take i bytes) (get_or bytes i 0 ∷ []) c.loop-byte.invariant c.push.ensures
    ∙ ap (λ more. take 81 (xs ++ more)) (sym (take_more bytes i 0 c.loop-byte-test.true))
