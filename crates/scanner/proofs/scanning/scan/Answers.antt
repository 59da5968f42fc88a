use Rattle.scanner.proofs.Laws.{sound_readings_are_lawful}
use Rattle.scanner.proofs.scanning.scan.Goals as goal

pub returns-then-is_inside-clause-lawful : goal.returns-then-is_inside-clause-lawful
returns-then-is_inside-clause-lawful g c = sound_readings_are_lawful

pub returns-in-Some-clause-lawful : goal.returns-in-Some-clause-lawful
returns-in-Some-clause-lawful g c = sound_readings_are_lawful

pub returns-clause-lawful : goal.returns-clause-lawful
returns-clause-lawful g c = sound_readings_are_lawful
