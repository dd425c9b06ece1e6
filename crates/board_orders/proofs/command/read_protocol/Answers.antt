use Rattle.board_orders.proofs.command.read_protocol.Goals as goal

pub returns-in-protocol_version-clause-some : goal.returns-in-protocol_version-clause-some
returns-in-protocol_version-clause-some c = c.in-protocol_version.is

pub returns-in-protocol_version-clause-none : goal.returns-in-protocol_version-clause-none
returns-in-protocol_version-clause-none c = tt

pub returns-in-name-clause-some : goal.returns-in-name-clause-some
returns-in-name-clause-some c = c.in-name.is

pub returns-in-name-clause-none : goal.returns-in-name-clause-none
returns-in-name-clause-none c = tt

pub returns-in-version-clause-some : goal.returns-in-version-clause-some
returns-in-version-clause-some c = c.in-version.is

pub returns-in-version-clause-none : goal.returns-in-version-clause-none
returns-in-version-clause-none c = tt

pub returns-in-known_command-clause-some : goal.returns-in-known_command-clause-some
returns-in-known_command-clause-some c = c.in-known_command.is

pub returns-in-known_command-clause-none : goal.returns-in-known_command-clause-none
returns-in-known_command-clause-none c = tt

pub returns-in-list_commands-clause-some : goal.returns-in-list_commands-clause-some
returns-in-list_commands-clause-some c = c.in-list_commands.is

pub returns-in-list_commands-clause-none : goal.returns-in-list_commands-clause-none
returns-in-list_commands-clause-none c = tt

pub returns-in-quit-clause-some : goal.returns-in-quit-clause-some
returns-in-quit-clause-some c = c.in-quit.is

pub returns-in-quit-clause-none : goal.returns-in-quit-clause-none
returns-in-quit-clause-none c = tt

pub returns-in_default-clause-some : goal.returns-in_default-clause-some
returns-in_default-clause-some c = tt

pub returns-in_default-clause-none : goal.returns-in_default-clause-none
returns-in_default-clause-none c = (c.in_default.not-protocol_version, (c.in_default.not-name, (c.in_default.not-version, (c.in_default.not-known_command, (c.in_default.not-list_commands, (c.in_default.not-quit, tt))))))
