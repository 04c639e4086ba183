use Rattle.std.proofs.Common.{vec_items, subst, w64, SFits, of_z, rules}
use mir.ValLaws.{to_z-of_z}
use Rattle.model.specs.Images.{low_bytes, node_bytes}
use Rattle.image.specs.Pushes.{Pushed}
use Rattle.image.proofs.BytesOut.{five, ended_by}
use Rattle.image.proofs.push.push_node.Goals as goal

pub returns-clause-pushed : goal.returns-clause-pushed
returns-clause-pushed c =
    let n = c.args.node in
    let o = vec_items c.args.out.now in
    let s = vec_items c.push_u32-4.new.out in
    let t = vec_items c.push_i64.new.out in
    let fits : SFits w64 n.number = record { sfits = search rules } in
    let last = low_bytes 8 (of_z w64 n.number) in
    let ends : Pushed c.push_i64.result s last t = subst (λ k. Pushed c.push_i64.result s (low_bytes 8 (of_z w64 k)) t) (to_z-of_z w64 n.number fits) c.push_i64.ensures in
    ended_by c.push_i64.result o (node_bytes n) s last t ends
    (five o _ _ _ s t (low_bytes 4 n.kind) (low_bytes 4 n.field) (low_bytes 4 n.a) (low_bytes 4 n.b) last
    c.in_ok-push_u32.ensures c.in_ok-push_u32-2.ensures c.in_ok-push_u32-3.ensures c.in_ok-push_u32-4.ensures)
