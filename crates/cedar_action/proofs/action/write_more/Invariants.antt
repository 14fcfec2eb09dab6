use Rattle.std.proofs.Common.{◌≡◌, take, true}
use Rattle.std.specs.List.{flat_map, list_all}
use Rattle.std.specs.Fmt.{HasWritten, IsPlainFormatter}
use Rattle.cedar_ids.specs.UidOf.{uid_parts}
use Rattle.cedar_action.specs.RuleTexts.{after_comma}
use Rattle.cedar_terms.specs.UidTrees.{is_ascii_uid}
use Rattle.cedar_action.proofs.action.write_more.Given as goal

abbrev pub invariant-loop-euid : goal.invariant-loop-euid
invariant-loop-euid g l =
    list_all (λ u. is_ascii_uid (uid_parts u.value)) l.euids ≡ true → IsPlainFormatter l.initial.f →
    HasWritten g.W.Write.write_str_gives l.initial.f
    (flat_map (λ u. after_comma (uid_parts u.value)) (take l.euid-index l.euids)) l.f
