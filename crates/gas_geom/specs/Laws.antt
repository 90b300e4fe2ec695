-- Proofs that rules which pass some trials are those of a gas, as those of FHP-I, HPP and the gas with a rest particle do. They are no
-- definitions, and need not be read or believed. They stand here because a gas hands out its laws, and what is handed out must stand in
-- this folder.
pub mod Steps
pub mod Trials
