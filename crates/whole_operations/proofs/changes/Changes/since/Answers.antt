-- `whole_operations::changes::Changes::since` meets its contract: the count stays where it is another than before.
use Rattle.std.specs.Prelude.{Option, None}
use mathlib.Core.Path.{◌≡◌, ◌∙◌, sym, subst}
use lib.ListN.{length}
use borrow.Author.Rules.{rules}
use Rattle.record.specs.Parts.{count_of}
use Rattle.whole_operations.specs.declared.changes.IndexCount.{IndexCount}
use Rattle.whole_operations.proofs.ChangesMade.{Made, none_counted, counts_one, past_the_counts, counts_the_same}
use Rattle.whole_operations.proofs.changes.Changes.since.Goals as goal

pub returns-in-Some : goal.returns-in-Some
unfolding count_of
returns-in-Some c =
    let a = c.args in
    let found = c.in-Some.field-0 in
    let all : length a.panel.now.counts ≡ 64 = search rules in
    let one = counts_one a.panel.now a.self.reach found.index found.count all (sym c.is_within.ensures ∙ c.if-is_within.true) (λ e. c.if-count_in-count.true (c.count_in.ensures ∙ e)) in
    let made =
    subst (λ (n : Option IndexCount). Made a.panel.now (record { reach = a.self.reach; count = n }) (record { reach = a.self.reach; count = n })) (sym c.in-Some.is) one in
    (made.between, made.leaves_same)

pub returns-in_default : goal.returns-in_default
unfolding count_of
returns-in_default c =
    let a = c.args in
    let found = c.in-Some.field-0 in
    let all : length a.panel.now.counts ≡ 64 = search rules in
    let same = counts_the_same a.panel.now a.self.reach found.index found.count all (sym c.count_in.ensures ∙ c.if-count_in-count.false) in
    let made = subst (λ (n : Option IndexCount). Made a.panel.now (record { reach = a.self.reach; count = n }) (record { reach = a.self.reach; count = None })) (sym c.in-Some.is) same in
    (made.between, made.leaves_same)

pub returns-in_default-2 : goal.returns-in_default-2
returns-in_default-2 c =
    let a = c.args in
    let found = c.in-Some.field-0 in
    let all : length a.panel.now.counts ≡ 64 = search rules in
    let past = past_the_counts a.panel.now a.self.reach found.index found.count all (sym c.is_within.ensures ∙ c.if-is_within.false) in
    let made = subst (λ (n : Option IndexCount). Made a.panel.now (record { reach = a.self.reach; count = n }) (record { reach = a.self.reach; count = None })) (sym c.in-Some.is) past in
    (made.between, made.leaves_same)

pub returns-in_default-3 : goal.returns-in_default-3
returns-in_default-3 c =
    let a = c.args in
    let made =
    subst (λ (n : Option IndexCount). Made a.panel.now (record { reach = a.self.reach; count = n }) (record { reach = a.self.reach; count = None })) (sym c.in_default.is)
    (none_counted a.panel.now a.self.reach) in
    (made.between, made.leaves_same)
