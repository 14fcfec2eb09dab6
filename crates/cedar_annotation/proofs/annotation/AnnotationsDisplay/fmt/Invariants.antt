use Rattle.std.proofs.Common.{◌≡◌, true, map}
use Rattle.std.specs.List.{list_all, flat_map}
use Rattle.std.specs.Map.Iter.{deref_pair}
use Rattle.std.specs.Fmt.{HasWritten, IsPlainFormatter}
use Rattle.cedar_annotation.specs.Annotations.{annotation_line, is_ascii_pair}
use Rattle.cedar_annotation.proofs.annotation.AnnotationsDisplay.fmt.Given as goal

abbrev pub invariant-loop-key : goal.invariant-loop-key
invariant-loop-key g l =
    list_all is_ascii_pair (map deref_pair l.yielded) ≡ true → IsPlainFormatter l.initial.f →
    HasWritten g.W.Write.write_str_gives l.initial.f (flat_map annotation_line (map deref_pair l.yielded)) l.f
