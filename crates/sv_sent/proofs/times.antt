-- These packets have the times of the items.
pub mod Sending
pub mod Timed
