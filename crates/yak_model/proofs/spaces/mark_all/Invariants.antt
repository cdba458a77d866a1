use Rattle.std.proofs.Common.{◌≡◌, ℕ, ◌<◌, length, not, count_by}
use Rattle.object_layout.specs.declared.names.Name.{Name}
use Rattle.yak_model.specs.Kept.{IsMarked, ListRefers, name_at}
use Rattle.yak_model.specs.Spaces.{IsReached}
use Rattle.yak_model.proofs.spaces.mark_all.Given as goal

abbrev pub invariant-loop-i : goal.invariant-loop-i
invariant-loop-i l = record {
  kept : (i : ℕ) → IsMarked l.fn.marks i → IsMarked l.marks i;
  sound : (i : ℕ) → i < length l.objects → IsMarked l.marks i → IsReached (ListRefers l.objects) (λ (root : Name). (j : ℕ) × (j < length l.objects) × IsMarked l.fn.marks j × (name_at l.objects j ≡ root)) (name_at l.objects i);
}

abbrev pub decreases-loop-i : goal.decreases-loop-i
decreases-loop-i l = count_by not l.marks
