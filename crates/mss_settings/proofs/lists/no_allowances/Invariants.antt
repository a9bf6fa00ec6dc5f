use Rattle.std.proofs.Common.{◌≡◌, replicate}
use Rattle.mss_settings.proofs.lists.no_allowances.Given as goal

abbrev pub invariant-loop-name : goal.invariant-loop-name
invariant-loop-name l = l.allow ≡ replicate l._name 0
