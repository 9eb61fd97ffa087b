use Rattle.std.proofs.Common.{◌≤◌, drop}
use Rattle.std.specs.Option.{option_map}
use Rattle.names.specs.Scope.{scope_of}
use Rattle.types_go.proofs.functions.check_members.Given as goal
use Rattle.types_go.specs.Passing.{member_views}
use Rattle.types_go.proofs.Walk.{MembersKept, GlobalsKept}

abbrev pub invariant-loop-member : goal.invariant-loop-member
invariant-loop-member l =
    MembersKept l.text (scope_of l.heads) (scope_of l.fn.scope) (member_views l.members) (member_views (drop l.member-index l.members)) (scope_of l.scope) l.number (option_map (λ v. v.items) l.funcs) l.fault
    × GlobalsKept l.text (scope_of l.heads) (scope_of l.fn.scope) (member_views l.members) (member_views (drop l.member-index l.members)) (scope_of l.scope) l.globals.items
    × (l.number ≤ l.member-index)
