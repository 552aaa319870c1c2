use Rattle.std.proofs.Common.{◌+◌, ◌<◌, refl, rules, arith}
use borrow.Author.Tests.{tests}
use Rattle.commands.proofs.Separators.{seen_spaces}
use Rattle.commands.proofs.parse.is_laid_out.Goals as goal

pub returns-then-rest-count : goal.returns-then-rest-count
returns-then-rest-count c =
    let run = c.all.ensures.runs in
    let some : 0 < c.args.digits + 1 = omega arith in
    let parts = rw (run.1, c.chunks_exact.ensures.size, c.chunks_exact.ensures.rest) at (c.chunks_exact.ensures.runs run.0 run.0.seen) in
    seen_spaces run.0 _ _ (λ a r f q. refl) (λ x q. search (rules, tests)) (λ x q lt. search (rules, tests)) c.args.digits c.args.count c.args.rest.now c.if-rest-count.true (parts some) c.all.result run.2
