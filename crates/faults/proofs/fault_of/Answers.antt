-- `fault_of` meets its contract: its tests are the faults, in their order.
use mathlib.Core.Path.{sym, ap, ◌∙◌}
use Rattle.faults.specs.Faults.{data_fits}
use Rattle.faults.proofs.FaultLaws.{Free1, Free2, FreeType, Free3, Free4, free1, free2, free_type, free3, free4, free5, fault1, fault2, fault_type, fault3, fault4, fault5}
use Rattle.faults.proofs.fault_of.Goals as goal
use Rattle.faults.proofs.fault_of.Goals.{In_default, Else-slot-ne0, Else-n-data_len, Else-not-data_fits, Else-not-is_supported}

on1 : (c : Else-not-is_supported) → let a = c.args in Free1 a.request a.slot a.msg.now
on1 c = free1 (sym c.is_supported.ensures ∙ c.if-not-is_supported.false)

on2 : (c : Else-n-data_len) → let a = c.args in Free2 a.request a.slot a.msg.now
on2 c = free2 (on1 (goal.at.Else-n-data_len c).Else-not-is_supported) (sym c.dw_length-n.ensures ∙ c.if-n-data_len.false ∙ c.data_len.ensures)

on_type : (c : Else-not-data_fits) → let a = c.args in
    FreeType a.request a.slot a.msg.now
on_type c =
    free_type (on2 (goal.at.Else-not-data_fits c).Else-n-data_len) (sym
    (c.data_fits.ensures ∙ ap (data_fits c.args.request) c.dw_length-n.ensures)
    ∙ c.if-not-data_fits.false)

on3 : (c : Else-slot-ne0) → let a = c.args in Free3 a.request a.slot a.msg.now
on3 c = free3 (on_type (goal.at.Else-slot-ne0 c).Else-not-data_fits) (sym c.slot.ensures ∙ c.if-slot-ne0.false)

on4 : (c : In_default) → let a = c.args in
    Free4 a.request a.slot a.msg.now
on4 c = free4 (on3 (goal.at.In_default c).Else-slot-ne0) (sym c.bad_field.ensures ∙ c.in_default.is)

pub returns-then-not-is_supported : goal.returns-then-not-is_supported
returns-then-not-is_supported c = fault1 _ _ _ (sym c.is_supported.ensures ∙ c.if-not-is_supported.true)

pub returns-then-n-data_len : goal.returns-then-n-data_len
returns-then-n-data_len c = fault2 (on1 (goal.at.returns-then-n-data_len c).Else-not-is_supported) (λ e. c.if-n-data_len.true (c.dw_length-n.ensures ∙ e ∙ sym c.data_len.ensures))

pub returns-then-not-data_fits : goal.returns-then-not-data_fits
returns-then-not-data_fits c =
    fault_type (on2 (goal.at.returns-then-not-data_fits c).Else-n-data_len)
    (sym (c.data_fits.ensures ∙ ap (data_fits c.args.request) c.dw_length-n.ensures)
    ∙ c.if-not-data_fits.true)

pub returns-then-slot-ne0 : goal.returns-then-slot-ne0
returns-then-slot-ne0 c = fault3 (on_type (goal.at.returns-then-slot-ne0 c).Else-not-data_fits) (λ e. c.if-slot-ne0.true (c.slot.ensures ∙ e))

pub returns-in-Some : goal.returns-in-Some
returns-in-Some c = fault4 (on3 (goal.at.returns-in-Some c).Else-slot-ne0) (sym c.bad_field.ensures ∙ c.in-Some.is)

pub returns-then-not-is_ready : goal.returns-then-not-is_ready
returns-then-not-is_ready c = fault5 (on4 (goal.at.returns-then-not-is_ready c).In_default) (sym c.is_ready.ensures ∙ c.if-not-is_ready.true)

pub returns : goal.returns
returns c = free5 (on4 (goal.at.returns c).In_default) (sym c.is_ready.ensures ∙ c.if-not-is_ready.false)
