use Rattle.std.proofs.Common.{◌∙◌, ap, sym, Some}
use Rattle.std.specs.Option.{option_map}
use Rattle.appender_store.specs.Content.{Link}
use Rattle.appender_store.specs.Inside.Entries.{entry_of}
use Rattle.appender_store.proofs.MemoryEntryLemmas.{get_name}
use Rattle.appender_store.proofs.store.entries.look_up.Goals as goal

pub returns-in-None : goal.returns-in-None
returns-in-None c = get_name c.args.names.now c.args.name.now ∙ ap (option_map entry_of) (sym c.in-None.ensures.value)

pub returns-in-Some-Plain : goal.returns-in-Some-Plain
returns-in-Some-Plain c = (_, get_name c.args.names.now c.args.name.now ∙ ap (option_map entry_of) (sym (rw c.in-Some-Plain.field-0-is at c.in-Some-Plain.ensures.value)))

pub returns-in-Some-Link : goal.returns-in-Some-Link
returns-in-Some-Link c = get_name c.args.names.now c.args.name.now ∙ ap (option_map entry_of) (sym (rw c.in-Some-Link.field-0-is at c.in-Some-Link.ensures.value)) ∙ ap (λ t. Some (Link t)) (sym c.as_str.ensures.value)

pub returns-in-Some-Folder : goal.returns-in-Some-Folder
returns-in-Some-Folder c = get_name c.args.names.now c.args.name.now ∙ ap (option_map entry_of) (sym (rw c.in-Some-Folder.field-0-is at c.in-Some-Folder.ensures.value))
